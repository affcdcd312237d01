use Rattle.std.proofs.Common.{◌≡◌, drop}
use Rattle.wire.specs.Writing.{each_onto, selector_onto}
use Rattle.wire.proofs.selector.write_list.Given as goal

abbrev pub invariant-loop-selector : goal.invariant-loop-selector
invariant-loop-selector l = each_onto selector_onto (drop l.selector-index l.selectors) l.out.items ≡ each_onto selector_onto l.selectors l.initial.out.items
