-- Outbound packets whose ESP packets stand one behind the other in a room, and get their ICVs afterwards.
use Rattle.std.specs.Prelude.{◌+◌, ◌++◌, ℕ, zero, suc, List, [], ◌∷◌, take, drop}
use Rattle.base.specs.Octets.{Octets}
use Rattle.esp.specs.Laying.{StaysBehind}
use Rattle.sadb.specs.Database.{PairMap}
use Rattle.sadb.specs.Laying.{finished_at}
use Rattle.traffic.specs.Behind.{laid_size}
use Rattle.traffic.specs.declared.departure.Laid.{Laid}
use Rattle.traffic.specs.declared.departure.Laid.TheVariants as laid
use Rattle.gateway.specs.Outputs.{OutputView}
use Rattle.gateway.specs.Outputs as view
use Rattle.gateway.specs.declared.fault.Reason.TheVariants as reason
use Rattle.gateway.specs.declared.row.Span.{Span}

-- how many octets the ESP packets have together
abbrev pub octets_of : List Span → ℕ
octets_of [] = 0
octets_of (span ∷ spans) = span.length + octets_of spans

-- a buffer from whose beginning on ESP packets stand one behind the other, once each has its ICV
abbrev pub finished_row : PairMap → List Span → Octets → Octets
finished_row pairs [] octets = octets
finished_row pairs (span ∷ spans) octets =
    finished_at pairs span.child span.number (take span.length octets) ++ finished_row pairs spans (drop span.length octets)

-- the ESP packet at each place
abbrev pub packet_in_row : List Span → Octets → ℕ → Octets
packet_in_row [] octets i = []
packet_in_row (span ∷ spans) octets zero = take span.length octets
packet_in_row (span ∷ spans) octets (suc i) = packet_in_row spans (drop span.length octets) i

-- the output for a packet whose ESP packet, if it goes protected, is these octets, once they have their ICV
abbrev pub said_of_laid : PairMap → Laid → Octets → OutputView
said_of_laid pairs (laid.Sealed child number) octets = view.Sealed child number (finished_at pairs child number octets)
said_of_laid pairs (laid.Clear packet) octets = view.Clear packet.now
said_of_laid pairs laid.Discarded octets = view.Discarded
said_of_laid pairs (laid.Dropped fault) octets = view.Dropped (reason.Packet fault)

-- The ESP packet of a packet of so many octets stands at the beginning of a room, if the packet goes protected.
-- What is behind it stands there still. Once the ESP packet has its ICV, this is the output.
pub record LaysIn (says : OutputView → Type 0) (octets : ℕ) (room : Octets) (what : Laid) (pairs : PairMap) (filled : Octets) : Type 0 where
  pub said : says (said_of_laid pairs what (take (laid_size what octets) filled))
  pub behind : StaysBehind (laid_size what octets) room filled
