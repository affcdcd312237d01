use Rattle.std.proofs.Common.{rules, arith, ◌≡◌, string_bytes, subst}
use Rattle.gw_engine.specs.Showing.{proposal_text}
use Rattle.gw_engine.proofs.ShowingLemmas.{one_more}
use Rattle.gw_engine.proofs.showing.lines.of_proposals.Goals as goal

pub loop-proposal-preserved : goal.loop-proposal-preserved
loop-proposal-preserved c =
    let piece = string_bytes c.in_ok-of_proposal.field-0 in
    one_more proposal_text c.args.proposals.now c.loop-proposal.proposal-index c.proposal-item.result (string_bytes c.loop-proposal.lines) piece (string_bytes c.push_str.new.self)
    (omega (arith, c.loop-proposal-test.true)) c.loop-proposal.invariant (subst (λ p. piece ≡ proposal_text p) c.proposal-item.is c.in_ok-of_proposal.ensures) (search rules)
