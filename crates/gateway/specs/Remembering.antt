-- What becomes of the memory of flows at a step. Time alone depends on it, so no public clause speaks of this.
use Rattle.std.specs.Prelude.{◌≡◌, List, Option, MatchOption}
use Rattle.flows.specs.declared.memory.Answer.{Answer}
use Rattle.flows.specs.Memory.{HoldsNone}
use Rattle.ike.specs.declared.output.Trace.{Trace}
use Rattle.policy.specs.declared.entry.Entry.{Entry}
use Rattle.sadb.specs.Database.{PairMap}
use Rattle.traffic.specs.Remembering.{RemembersItsFlow}
use Rattle.gateway.specs.Inputs.{Input, Ike, Esp, Outward, Inward, Start, Probe, DeleteChild, DeleteIke, Secret, Tick}

-- it forgets all where a Child SA was made, and else nothing
abbrev pub ForgetsWith : Trace → List (Option Answer) → List (Option Answer) → Type 0
ForgetsWith trace old new = MatchOption trace.child (new ≡ old) (λ _. HoldsNone new)

-- the flow of a packet on its way out is remembered, a packet that came changes nothing, and an input of IKE makes all forgotten where a child was made
abbrev pub RemembersAt : List Entry → PairMap → Input → Trace → List (Option Answer) → List (Option Answer) → Type 0
RemembersAt policy pairs (Outward packet) trace old new = RemembersItsFlow policy pairs packet old new
RemembersAt policy pairs (Esp packet) trace old new = new ≡ old
RemembersAt policy pairs (Inward packet) trace old new = new ≡ old
RemembersAt policy pairs (Ike from octets fresh) trace old new = ForgetsWith trace old new
RemembersAt policy pairs (Start ike entry fresh) trace old new = ForgetsWith trace old new
RemembersAt policy pairs (Probe ike fresh) trace old new = ForgetsWith trace old new
RemembersAt policy pairs (DeleteChild child fresh) trace old new = ForgetsWith trace old new
RemembersAt policy pairs (DeleteIke ike fresh) trace old new = ForgetsWith trace old new
RemembersAt policy pairs (Secret secret) trace old new = ForgetsWith trace old new
RemembersAt policy pairs (Tick moment) trace old new = ForgetsWith trace old new
