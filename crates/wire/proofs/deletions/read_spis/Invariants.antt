use Rattle.std.proofs.Common.{length}
use Rattle.wire.specs.Reading.{each_of, number_at}
use Rattle.wire.proofs.Loops.{EachSoFar}
use Rattle.wire.proofs.deletions.read_spis.Given as goal

abbrev pub invariant-loop-list : goal.invariant-loop-list
invariant-loop-list l = EachSoFar (number_at 4) l.spis l.list.rest.now (each_of (number_at 4) (length l.fn.list.rest.now) l.fn.list.rest.now)

abbrev pub decreases-loop-list : goal.decreases-loop-list
decreases-loop-list l = length l.list.rest.now
