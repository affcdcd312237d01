use Rattle.std.proofs.Common.{◌≡◌, ◌∷◌, [], ◌∙◌, sym, ap, arith}
use Rattle.wire.specs.declared.proposal.Proposal.{Proposal}
use Rattle.suite.proofs.OfferLemmas.{accepted_by, refused_by, list_of_one}
use Rattle.suite.proofs.offers.accept.Goals as goal

pub returns-in-len1 : goal.returns-in-len1
returns-in-len1 c =
    let ps = c.args.proposals.now in
    let item = c.proposal-item.result in
    let is : ps ≡ item ∷ [] = list_of_one ps item (omega (arith, c.in-len1.len_below, c.in-len1.len_at_least)) ∙ ap (λ (x : Proposal). x ∷ []) (sym c.proposal-item.is) in
    let first = c.is_first.ensures.0 c.if-is_first.true in
    accepted_by c.args.wanted.now ps item c.choose.result is first.0 first.1 c.choose.ensures

pub returns-in_default-2 : goal.returns-in_default-2
returns-in_default-2 c =
    let ps = c.args.proposals.now in
    let item = c.proposal-item.result in
    let is : ps ≡ item ∷ [] = list_of_one ps item (omega (arith, c.in-len1.len_below, c.in-len1.len_at_least)) ∙ ap (λ (x : Proposal). x ∷ []) (sym c.proposal-item.is) in
    refused_by c.args.wanted.now ps item is (λ both. let yes = c.is_first.ensures.1 both in let no = c.if-is_first.false in cc)
