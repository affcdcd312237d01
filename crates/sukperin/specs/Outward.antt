-- What a call does that sends a packet.
use Rattle.std.specs.Prelude.{◌≡◌, ◌⊎◌, ◌+◌, ◌≤◌, ◌++◌, ℕ, Option, Some, [], length, drop}
use Rattle.base.specs.Octets.{Octets}
use Rattle.gateway.specs.Inputs.{Outward}
use Rattle.gateway.specs.Outputs.{OutputView}
use Rattle.gateway.specs.Outputs as view
use Rattle.gateway.specs.Steps.{Traces}
use Rattle.ike.specs.declared.output.Trace.{Trace}
use Rattle.sukperin.specs.Meaning.{meaning_for}
use Rattle.sukperin.specs.Outputs.{told_of}
use Rattle.sukperin.specs.declared.end.End.{End}
use Rattle.sukperin.specs.declared.end.End.TheVariants.{Gateway}
use Rattle.sukperin.specs.declared.hosted.Hosted.{Hosted}
use Rattle.sukperin.specs.declared.hosted.Left.TheVariants as left
use Rattle.sukperin.specs.declared.output.SukOutput.{SukOutput}

-- the ESP packet in an output, no octets where there is no such packet
abbrev pub sealed_in : OutputView → Octets
sealed_in (view.Sealed child number octets) = octets
sealed_in (view.Reply octets closed) = []
sealed_in (view.Repeat octets) = []
sealed_in (view.Request serial octets) = []
sealed_in (view.Counted serial child closed) = []
sealed_in (view.Ticked requests closed) = []
sealed_in view.Done = []
sealed_in (view.Up child number packet) = []
sealed_in (view.Dummy child number) = []
sealed_in (view.Clear packet) = []
sealed_in view.Discarded = []
sealed_in (view.Dropped why) = []
sealed_in (view.Refused why) = []

-- a room with these octets at its beginning; what stood behind them stands there still
abbrev pub filled_with : Octets → Octets → Octets
filled_with octets room = octets ++ drop (length octets) room

-- The gateway takes one step with a packet on its way out. What is told is the step's output; where that is
-- an ESP packet it stands at the beginning of the room, which has place for it. Nothing is left to be taken.
pub record TakesOutward (packet room : Octets) (old new : Hosted) (told : SukOutput) (filled : Octets) : Type 0 where
  pub said : OutputView
  pub trace : Trace
  pub traces : Traces (meaning_for old.gateway.caller) (Outward packet) old.gateway said trace new.gateway
  pub told_is : told ≡ told_of said trace
  pub left_is : new.left ≡ left.Nothing
  pub tells_keys : new.tells_keys ≡ old.tells_keys
  pub fits : length (sealed_in said) ≤ length room
  pub filled_is : filled ≡ filled_with (sealed_in said) room

-- a packet goes out as itself and at most so many octets more
abbrev pub HasRoom : Octets → ℕ → Type 0
HasRoom packet room = length packet + 29 ≤ room

-- The gateway takes the packet. Or nothing changes, since the room may be too short for its ESP packet.
abbrev pub SendsBy : Octets → Octets → Hosted → ℕ → Hosted → SukOutput → SukOutput → Octets → Type 0
SendsBy packet room old code new before told filled =
    (HasRoom packet (length room) × (code ≡ 0) × TakesOutward packet room old new told filled)
    ⊎ ((¬ HasRoom packet (length room)) × (code ≡ 103) × (new ≡ old) × (told ≡ before) × (filled ≡ room))

-- What a call does that sends a packet: a gateway takes it, or there is none and nothing changes.
abbrev pub SendsIf : Octets → Octets → Option End → ℕ → Option End → SukOutput → SukOutput → Octets → Type 0
SendsIf packet room (Some (Gateway old)) code after before told filled =
    (new : Hosted) × (after ≡ Some (Gateway new)) × SendsBy packet room old code new before told filled
SendsIf packet room end code after before told filled = (code ≡ 101) × (after ≡ end) × (told ≡ before) × (filled ≡ room)
