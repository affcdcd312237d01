use Rattle.std.proofs.Common.{◌≡◌, ◌+◌, ◌^◌, ◌<◌, drop}
use Rattle.std.specs.List.{sum_by}
use Rattle.wire.specs.Sizes.{transform_size, usize_of}
use Rattle.wire.proofs.size.transforms_size.Given as goal

abbrev pub invariant-loop-transform : goal.invariant-loop-transform
invariant-loop-transform l = (l.size < 2 ^ 64) × (usize_of (l.size + sum_by transform_size (drop l.transform-index l.transforms)) ≡ usize_of (sum_by transform_size l.transforms))
