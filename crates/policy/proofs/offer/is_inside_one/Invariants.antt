use Rattle.policy.specs.Points.{HoldsPoint, LiesIn}
use Rattle.policy.proofs.Scanning.{HoldsOfNoneBefore}
use Rattle.policy.proofs.offer.is_inside_one.Given as goal

abbrev pub invariant-loop-other : goal.invariant-loop-other
invariant-loop-other l = HoldsOfNoneBefore (λ other. LiesIn (HoldsPoint l.selector) (HoldsPoint other)) l.offered l.other-index
