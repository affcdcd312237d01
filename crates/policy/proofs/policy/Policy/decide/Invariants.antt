use Rattle.policy.specs.Decisions.{HoldsFlow}
use Rattle.policy.proofs.Scanning.{HoldsOfNoneBefore}
use Rattle.policy.proofs.policy.Policy.decide.Given as goal

abbrev pub invariant-loop-entry : goal.invariant-loop-entry
invariant-loop-entry l = HoldsOfNoneBefore (HoldsFlow l.direction l.flow) l.self l.entry-index
