-- Packets on their way out whose ESP packets are appended to a buffer, or stand at the beginning of a room, and
-- get their ICVs afterwards.
use Rattle.std.specs.Prelude.{◌≡◌, ◌++◌, ℕ, List, [], length, take}
use Rattle.base.specs.Octets.{Octets}
use Rattle.esp.specs.Laying.{StaysBehind, packet_size}
use Rattle.flows.specs.declared.treatment.Treatment.{Treatment}
use Rattle.policy.specs.declared.entry.Entry.{Entry}
use Rattle.policy.specs.declared.flow.Flow.{Flow}
use Rattle.sadb.specs.Database.{Database}
use Rattle.traffic.specs.Laying.{finished_outcome}
use Rattle.traffic.specs.Outcomes.{Outcome, outcome_of_laid}
use Rattle.traffic.specs.Sending.{Departs, Protects, Sends}
use Rattle.traffic.specs.declared.departure.Laid.{Laid}
use Rattle.traffic.specs.declared.departure.Laid.TheVariants as laid

-- nothing is appended but an ESP packet
abbrev pub IsAppended : Laid → Octets → Type 0
IsAppended (laid.Sealed child number) octets = Unit {0}
IsAppended (laid.Clear packet) octets = octets ≡ []
IsAppended laid.Discarded octets = octets ≡ []
IsAppended (laid.Dropped fault) octets = octets ≡ []

-- An ESP packet is appended to the buffer, or nothing is. Once the ESP packet has its ICV, this became of the
-- packet.
pub record LaysBehind (becomes : Outcome → Type 0) (before : Octets) (what : Laid) (new : Database) (after : Octets) : Type 0 where
  pub appended : Octets
  pub after_is : after ≡ before ++ appended
  pub is_appended : IsAppended what appended
  pub became : becomes (finished_outcome new.pairs (outcome_of_laid what appended))

-- What becomes of a packet on its way out, of the table, and of the buffer.
abbrev pub SendsBehind : Database → List Entry → Octets → Octets → Laid → Database → Octets → Type 0
SendsBehind old policy packet before what new after =
    LaysBehind (λ outcome. Sends old policy packet outcome new) before what new after

-- the same of a packet that is sent as its flow is to be treated
abbrev pub DepartsBehind : Database → Treatment → Flow → Octets → Octets → Laid → Database → Octets → Type 0
DepartsBehind old treatment flow packet before what new after =
    LaysBehind (λ outcome. Departs old treatment flow packet outcome new) before what new after

-- and of one that is to be protected
abbrev pub ProtectsBehind : Database → Flow → Octets → Octets → Laid → Database → Octets → Type 0
ProtectsBehind old flow packet before what new after =
    LaysBehind (λ outcome. Protects old flow packet outcome new) before what new after

-- how many octets the ESP packet of a packet of so many has, if the packet goes protected
abbrev pub laid_size : Laid → ℕ → ℕ
laid_size (laid.Sealed child number) octets = packet_size octets
laid_size (laid.Clear packet) octets = 0
laid_size laid.Discarded octets = 0
laid_size (laid.Dropped fault) octets = 0

-- The ESP packet of a packet of so many octets stands at the beginning of a room, if it goes protected. What is
-- behind it stands there still. Once the ESP packet has its ICV, this became of the packet.
pub record LaysIn (becomes : Outcome → Type 0) (octets : ℕ) (room : Octets) (what : Laid) (new : Database) (filled : Octets) : Type 0 where
  pub became : becomes (finished_outcome new.pairs (outcome_of_laid what (take (laid_size what octets) filled)))
  pub behind : StaysBehind (laid_size what octets) room filled

-- What becomes of a packet on its way out, of the table, and of the room.
abbrev pub SendsIn : Database → List Entry → Octets → Octets → Laid → Database → Octets → Type 0
SendsIn old policy packet room what new filled =
    LaysIn (λ outcome. Sends old policy packet outcome new) (length packet) room what new filled

-- the same of a packet that is sent as its flow is to be treated
abbrev pub DepartsIn : Database → Treatment → Flow → Octets → Octets → Laid → Database → Octets → Type 0
DepartsIn old treatment flow packet room what new filled =
    LaysIn (λ outcome. Departs old treatment flow packet outcome new) (length packet) room what new filled

-- and of one that is to be protected
abbrev pub ProtectsIn : Database → Flow → Octets → Octets → Laid → Database → Octets → Type 0
ProtectsIn old flow packet room what new filled =
    LaysIn (λ outcome. Protects old flow packet outcome new) (length packet) room what new filled
