use Rattle.std.proofs.Common.{◌+◌, ◌≤◌, length, true}
use Rattle.wire.specs.Reading.{marked_of, transform_of}
use Rattle.wire.proofs.Passing.{PartsFound}
use Rattle.wire.proofs.checking.count_transforms.Given as goal

abbrev pub invariant-loop-another : goal.invariant-loop-another
invariant-loop-another l =
    PartsFound 3 transform_of (λ ts. length ts) l.count l.another l.list.rest.now (marked_of 3 transform_of (length l.fn.list.rest.now) true l.fn.list.rest.now)
    × (l.count + length l.list.rest.now ≤ length l.fn.list.rest.now)

abbrev pub decreases-loop-another : goal.decreases-loop-another
decreases-loop-another l = length l.list.rest.now
