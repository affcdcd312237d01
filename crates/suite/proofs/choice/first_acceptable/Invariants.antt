use Rattle.std.proofs.Common.{ℕ, ◌<◌, slice_index_or}
use Rattle.wire.specs.declared.proposal.Transform.{Transform}
use Rattle.suite.specs.Choice.{IsAcceptableTransform}
use Rattle.suite.proofs.choice.first_acceptable.Given as goal

abbrev pub invariant-loop-transform : goal.invariant-loop-transform
invariant-loop-transform l =
    (k : ℕ) (d : Transform) → k < l.transform-index → IsAcceptableTransform l.wanted l.kind (slice_index_or l.transforms k d) → ⊥
