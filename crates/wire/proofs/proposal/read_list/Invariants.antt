use Rattle.std.proofs.Common.{length, true}
use Rattle.wire.specs.Reading.{marked_of, proposal_of}
use Rattle.wire.proofs.Loops.{MarkedSoFar}
use Rattle.wire.proofs.proposal.read_list.Given as goal

abbrev pub invariant-loop-another : goal.invariant-loop-another
invariant-loop-another l = MarkedSoFar 2 proposal_of l.proposals l.another l.list.rest.now (marked_of 2 proposal_of (length l.fn.list.rest.now) true l.fn.list.rest.now)

abbrev pub decreases-loop-another : goal.decreases-loop-another
decreases-loop-another l = length l.list.rest.now
