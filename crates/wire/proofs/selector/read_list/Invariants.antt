use Rattle.std.proofs.Common.{length}
use Rattle.wire.specs.Reading.{each_of, selector_at}
use Rattle.wire.proofs.Loops.{EachSoFar}
use Rattle.wire.proofs.selector.read_list.Given as goal

abbrev pub invariant-loop-list : goal.invariant-loop-list
invariant-loop-list l = EachSoFar selector_at l.selectors l.list.rest.now (each_of selector_at (length l.fn.list.rest.now) l.fn.list.rest.now)

abbrev pub decreases-loop-list : goal.decreases-loop-list
decreases-loop-list l = length l.list.rest.now
