-- A datagram of IKE that is dropped, or was processed before, changes nothing.
use Rattle.std.proofs.Common.{◌≡◌, inl, inr, List, subst, ◌∙◌}
use Rattle.base.specs.Octets.{Octets}
use Rattle.policy.specs.declared.entry.Entry.{Entry}
use Rattle.suite.specs.declared.fresh.Fresh.{Fresh}
use Rattle.sadb.specs.Database.{Database}
use Rattle.effects.specs.Taking.{Meaning}
use Rattle.ike.specs.Machines.{Machine}
use Rattle.ike.specs.Outputs as quiet
use Rattle.ike.specs.Steps as ike
use Rattle.ike.specs.declared.output.IkeOutput.{IkeOutput}
use Rattle.ike.specs.declared.output.IkeOutput.TheVariants as made
use Rattle.ike.specs.declared.output.Stepped.{Stepped}
use Rattle.ike.specs.declared.output.Trace.{Trace}
use Rattle.gateway.specs.Inputs as input
use Rattle.gateway.specs.Outputs.{view_of_ike, IsQuiet, OutputView}
use Rattle.gateway.specs.States.{State}
use Rattle.gateway.specs.Steps.{Steps, StepsIke}

-- what ike says of its steps
pub record Facts : Type 0 where
  pub still : (meaning : Meaning) (entries : List Entry) (given : ike.InputView) (old : Machine) (table : Database) (stepped : Stepped) (new : Machine) (new_table : Database)
      → ike.Steps meaning entries given old table stepped new new_table → quiet.IsQuiet stepped.output → (new ≡ old) × (new_table ≡ table)

quiet_output : (o : IkeOutput) (s : OutputView) → s ≡ view_of_ike o → IsQuiet s → quiet.IsQuiet o
quiet_output (made.Reply octets closed) s e q = absurd (subst IsQuiet e q)
quiet_output (made.Repeat octets) s e q = tt
quiet_output (made.Request serial octets) s e q = absurd (subst IsQuiet e q)
quiet_output (made.Counted serial child closed) s e q = absurd (subst IsQuiet e q)
quiet_output (made.Ticked ticked) s e q = absurd (subst IsQuiet e q)
quiet_output made.Done s e q = absurd (subst IsQuiet e q)
quiet_output (made.Dropped fault) s e q = tt

still_ike : (facts : Facts) (meaning : Meaning) (entries : List Entry) (given : ike.InputView) (old : Machine) (table : Database) (s : OutputView) (trace : Trace) (new : Machine) (new_table : Database)
    → IsQuiet s → StepsIke meaning entries given old table s trace new new_table → (new ≡ old) × (new_table ≡ table)
still_ike facts meaning entries given old table s trace new new_table q (inl answers) =
    facts.still meaning entries given old table answers.stepped new new_table answers.steps (quiet_output answers.stepped.output s answers.output q)
still_ike facts meaning entries given old table s trace new new_table q (inr refuses) = absurd (subst IsQuiet refuses.output q)

pub quiet_step : {C : Type 0} (facts : Facts) (meaning : Meaning) (from octets : Octets) (fresh : Fresh) (s : OutputView) (old new : State C)
    → Steps meaning (input.Ike from octets fresh) old s new → IsQuiet s → new ≡ old
quiet_step {C} facts meaning from octets fresh s old new is q =
    let still = still_ike facts meaning old.entries (ike.Message from octets fresh) old.machine old.table s is.trace new.machine new.table q is.traces.does in
    is.traces.kept ∙ (λ i. record old { machine = still.0 i; table = still.1 i })
