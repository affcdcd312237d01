use Rattle.std.proofs.Common.{All, Any, take}
use Rattle.suite.specs.Choice.{IsAcceptableTransform}
use Rattle.suite.proofs.choice.has_each.Given as goal

abbrev pub invariant-loop-kind : goal.invariant-loop-kind
invariant-loop-kind l = All (λ kind. Any (IsAcceptableTransform l.wanted kind) l.transforms) (take l.kind-index l.kind-items)
