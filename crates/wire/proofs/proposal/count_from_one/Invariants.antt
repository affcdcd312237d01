use Rattle.std.proofs.Common.{◌≡◌, ◌+◌, drop}
use Rattle.wire.specs.Reading.{numbered_from}
use Rattle.wire.proofs.proposal.count_from_one.Given as goal

abbrev pub invariant-loop-place : goal.invariant-loop-place
invariant-loop-place l = numbered_from (l.place + 1) (drop l.place l.proposals) ≡ numbered_from 1 l.proposals
