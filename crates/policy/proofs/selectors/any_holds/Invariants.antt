use Rattle.policy.specs.Points.{HoldsPoint}
use Rattle.policy.proofs.Scanning.{HoldsOfNoneBefore}
use Rattle.policy.proofs.selectors.any_holds.Given as goal

abbrev pub invariant-loop-selector : goal.invariant-loop-selector
invariant-loop-selector l = HoldsOfNoneBefore (λ selector. HoldsPoint selector l.point) l.selectors l.selector-index
