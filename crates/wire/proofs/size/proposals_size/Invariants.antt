use Rattle.std.proofs.Common.{◌≡◌, ◌+◌, ◌^◌, ◌<◌, drop}
use Rattle.std.specs.List.{sum_by}
use Rattle.wire.specs.Sizes.{proposal_size, usize_of}
use Rattle.wire.proofs.size.proposals_size.Given as goal

abbrev pub invariant-loop-proposal : goal.invariant-loop-proposal
invariant-loop-proposal l = (l.size < 2 ^ 64) × (usize_of (l.size + sum_by proposal_size (drop l.proposal-index l.proposals)) ≡ usize_of (sum_by proposal_size l.proposals))
