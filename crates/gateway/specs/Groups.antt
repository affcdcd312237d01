-- Inputs that are taken as a group: the ICVs of their ESP packets are computed before any of them is taken.
use Rattle.std.specs.Prelude.{◌≡◌, ◌++◌, ◌≤◌, ℕ, List, [], Option, Some, None, length, take, slice_get}
use Rattle.base.specs.Octets.{Octets}
use Rattle.effects.specs.Taking.{Meaning}
use Rattle.gateway.specs.Inputs.{Input, Ike, Esp, Outward, Inward, Start, Probe, DeleteChild, DeleteIke, Secret, Tick}
use Rattle.gateway.specs.Runs.{Runs, StepsAs}
use Rattle.gateway.specs.States.{State}
use Rattle.gateway.specs.declared.output.Output.{Output}

-- the ESP packet that comes, none where the input is another
abbrev pub packet_in : Input → Octets
packet_in (Ike from octets fresh) = []
packet_in (Esp octets) = octets
packet_in (Outward packet) = []
packet_in (Inward packet) = []
packet_in (Start ike entry fresh) = []
packet_in (Probe ike fresh) = []
packet_in (DeleteChild child fresh) = []
packet_in (DeleteIke ike fresh) = []
packet_in (Secret secret) = []
packet_in (Tick moment) = []

abbrev pub packet_if : Option Input → Octets
packet_if None = []
packet_if (Some given) = packet_in given

-- the ESP packet at each place of a list
abbrev pub packets_in : List Input → ℕ → Octets
packets_in inputs i = packet_if (slice_get inputs i)

-- The first so many inputs were taken in order, and their outputs appended.
pub record TakesFirst {C : Type 0} (meaning_of : C → Meaning) (count : ℕ) (inputs : List Input) (old : State C) (before : List Output) (new : State C) (after : List Output) : Type 0 where
  pub within : count ≤ length inputs
  pub outputs : List Output
  pub appended : after ≡ before ++ outputs
  pub runs : Runs (StepsAs meaning_of) (take count inputs) outputs old new
