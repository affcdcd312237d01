use Rattle.std.proofs.Common.{rules, ◌≡◌, ◌∷◌, [], subst}
use Rattle.wire.specs.declared.proposal.Proposal.{Proposal}
use Rattle.suite.specs.declared.choice.Wanted.{Wanted}
use Rattle.suite.specs.Offers.{IsAcceptableAnswer}
use Rattle.sa_init.specs.Parts.{parts_view}
use Rattle.sa_init.proofs.PartLemmas.{refused_by_answer}
use Rattle.sa_init.proofs.response.accepted_parts.Goals as goal

pub returns-in_default : goal.returns-in_default
returns-in_default g c = λ other acceptance.
    refused_by_answer g.C.Sealer.cipher g.C.Agreement.group_number c.args.message.now (parts_view c.in_ok-parts.parts) other (search rules)
    (subst (λ (w : Wanted). (p : Proposal) → c.in_ok-parts.parts.proposals.now ≡ p ∷ [] → ¬ IsAcceptableAnswer w p) c.ike.ensures c.in_default.ensures)
    acceptance
