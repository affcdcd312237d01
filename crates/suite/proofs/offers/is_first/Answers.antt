use Rattle.std.proofs.Common.{rules, ◌≡◌, ◌∙◌, ◌==◌, sym}
use Rattle.std.specs.List.{list_all}
use Rattle.suite.specs.Choice.{kinds}
use Rattle.suite.specs.Offers.{count_of_kind}
use Rattle.suite.proofs.OfferLemmas.{one_each_holds, one_each_passes}
use Rattle.suite.proofs.offers.is_first.Goals as goal

pub returns-then-proposal-eq-OFFERED : goal.returns-then-proposal-eq-OFFERED
returns-then-proposal-eq-OFFERED c =
    let ts = c.args.proposal.now.transforms in
    let ks = kinds c.args.wanted.now in
    let is : c.has_one_each.result ≡ list_all (λ kind. count_of_kind ts kind == 1) ks = search rules in (
      λ yes. (c.if-proposal-eq-OFFERED.true, one_each_holds ts ks (sym is ∙ yes)),
      λ both. is ∙ one_each_passes ts ks both.1,
    )
