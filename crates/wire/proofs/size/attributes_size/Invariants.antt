use Rattle.std.proofs.Common.{◌≡◌, ◌+◌, ◌^◌, ◌<◌, drop}
use Rattle.std.specs.List.{sum_by}
use Rattle.wire.specs.Sizes.{attribute_size, usize_of}
use Rattle.wire.proofs.size.attributes_size.Given as goal

abbrev pub invariant-loop-attribute : goal.invariant-loop-attribute
invariant-loop-attribute l = (l.size < 2 ^ 64) × (usize_of (l.size + sum_by attribute_size (drop l.attribute-index l.attributes)) ≡ usize_of (sum_by attribute_size l.attributes))
