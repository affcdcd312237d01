use Rattle.policy.specs.Points.{HoldsPoint, Meets}
use Rattle.policy.proofs.Scanning.{HoldsOfNoneBefore}
use Rattle.policy.proofs.narrowing.meets_offer.Given as goal

abbrev pub invariant-loop-selector : goal.invariant-loop-selector
invariant-loop-selector l = HoldsOfNoneBefore (λ selector. Meets (HoldsPoint selector) (HoldsPoint l.side)) l.offered l.selector-index
