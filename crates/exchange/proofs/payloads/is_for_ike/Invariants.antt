use Rattle.std.proofs.Common.{◌≡◌, ◌==◌, drop}
use Rattle.std.specs.List.{list_any}
use Rattle.exchange.proofs.payloads.is_for_ike.Given as goal

abbrev pub invariant-loop-proposal : goal.invariant-loop-proposal
invariant-loop-proposal l = list_any (λ proposal. proposal.protocol == 1) (drop l.proposal-index l.proposals) ≡ list_any (λ proposal. proposal.protocol == 1) l.proposals
