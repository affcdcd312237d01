use Rattle.std.proofs.Common.{ℕ, ◌<◌, slice_index_or}
use Rattle.wire.specs.declared.proposal.Proposal.{Proposal}
use Rattle.suite.specs.Choice.{IsAcceptableProposal}
use Rattle.suite.proofs.choice.choose.Given as goal

abbrev pub invariant-loop-place : goal.invariant-loop-place
invariant-loop-place l =
    (k : ℕ) (d : Proposal) → k < l.place → IsAcceptableProposal l.wanted (slice_index_or l.proposals k d) → ⊥
