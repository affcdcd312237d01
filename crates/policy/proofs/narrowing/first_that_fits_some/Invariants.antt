use Rattle.policy.specs.Narrowing.{FitsSome}
use Rattle.policy.proofs.Scanning.{HoldsOfNoneBefore}
use Rattle.policy.proofs.narrowing.first_that_fits_some.Given as goal

abbrev pub invariant-loop-entry : goal.invariant-loop-entry
invariant-loop-entry l = HoldsOfNoneBefore (FitsSome l.offered_i l.offered_r) l.entries l.entry-index
