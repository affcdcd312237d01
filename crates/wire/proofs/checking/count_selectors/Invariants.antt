use Rattle.std.proofs.Common.{◌+◌, ◌≤◌, length}
use Rattle.wire.specs.Reading.{each_of, selector_at}
use Rattle.wire.proofs.Passing.{EachFound}
use Rattle.wire.proofs.checking.count_selectors.Given as goal

abbrev pub invariant-loop-list : goal.invariant-loop-list
invariant-loop-list l =
    EachFound selector_at (λ selectors. length selectors) l.count l.list.rest.now (each_of selector_at (length l.fn.list.rest.now) l.fn.list.rest.now)
    × (l.count + length l.list.rest.now ≤ length l.fn.list.rest.now)

abbrev pub decreases-loop-list : goal.decreases-loop-list
decreases-loop-list l = length l.list.rest.now
