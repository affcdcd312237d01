use Rattle.std.proofs.Common.{length, true}
use Rattle.wire.specs.Reading.{each_of, attribute_at}
use Rattle.wire.proofs.Passing.{EachFound}
use Rattle.wire.proofs.checking.check_attributes.Given as goal

abbrev pub invariant-loop-list : goal.invariant-loop-list
invariant-loop-list l = EachFound attribute_at (λ _. true) true l.list.rest.now (each_of attribute_at (length l.fn.list.rest.now) l.fn.list.rest.now)

abbrev pub decreases-loop-list : goal.decreases-loop-list
decreases-loop-list l = length l.list.rest.now
