use Rattle.children.proofs.FewLemmas.{few_accepted, few_made, FewFacts}
use Rattle.children.proofs.laws.pairs_have_few_selectors.Goals as goal

pub returns-clause-made : goal.returns-clause-made
returns-clause-made c =
    let facts : FewFacts = record { narrowed = c.answers_can_be_sent.ensures; ts_i = c.what_counts_fits.ensures.ts_i; ts_r = c.what_counts_fits.ensures.ts_r } in
    few_made facts

pub returns-clause-accepted : goal.returns-clause-accepted
returns-clause-accepted c =
    let facts : FewFacts = record { narrowed = c.answers_can_be_sent.ensures; ts_i = c.what_counts_fits.ensures.ts_i; ts_r = c.what_counts_fits.ensures.ts_r } in
    few_accepted facts
