use Rattle.std.proofs.Common.{◌≡◌, ◌+◌, ◌^◌, ◌<◌, drop}
use Rattle.std.specs.List.{sum_by}
use Rattle.wire.specs.Sizes.{selector_size, usize_of}
use Rattle.wire.proofs.size.selectors_size.Given as goal

abbrev pub invariant-loop-selector : goal.invariant-loop-selector
invariant-loop-selector l = (l.size < 2 ^ 64) × (usize_of (l.size + sum_by selector_size (drop l.selector-index l.selectors)) ≡ usize_of (sum_by selector_size l.selectors))
