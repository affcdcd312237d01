use Rattle.wire.specs.Sizes.{proposal_size}
use Rattle.wire.proofs.SizeLemmas.{counted_whole}
use Rattle.wire.proofs.size.proposals_size.Goals as goal

pub returns : goal.returns
returns c = counted_whole proposal_size c.args.proposals.now c.loop-proposal.size c.loop-proposal.proposal-index c.loop-proposal-test.false c.loop-proposal.invariant.0 c.loop-proposal.invariant.1
