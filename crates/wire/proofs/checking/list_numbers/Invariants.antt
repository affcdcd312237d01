use Rattle.std.proofs.Common.{◌+◌, ◌≤◌, length, true}
use Rattle.wire.specs.Reading.{marked_of, numbers_of, proposal_of}
use Rattle.wire.proofs.Passing.{PartsFound}
use Rattle.wire.proofs.checking.list_numbers.Given as goal

abbrev pub invariant-loop-another : goal.invariant-loop-another
invariant-loop-another l =
    PartsFound 2 proposal_of numbers_of l.numbers l.another l.list.rest.now (marked_of 2 proposal_of (length l.fn.list.rest.now) true l.fn.list.rest.now)
    × (l.numbers.count + length l.list.rest.now ≤ length l.fn.list.rest.now)

abbrev pub decreases-loop-another : goal.decreases-loop-another
decreases-loop-another l = length l.list.rest.now
