use Rattle.std.proofs.Common.{All, Contains, take}
use Rattle.suite.proofs.choice.has_no_other.Given as goal

abbrev pub invariant-loop-transform : goal.invariant-loop-transform
invariant-loop-transform l = All (λ transform. Contains l.kinds transform.kind) (take l.transform-index l.transforms)
