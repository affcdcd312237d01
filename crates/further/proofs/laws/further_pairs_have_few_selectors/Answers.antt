use Rattle.further.proofs.FewLemmas.{few_accepted, few_made, FewLaws}
use Rattle.further.proofs.laws.further_pairs_have_few_selectors.Goals as goal

pub returns-clause-made : goal.returns-clause-made
returns-clause-made c =
    let laws : FewLaws = record {
      read = c.what_is_read_fits.ensures;
      ts_i = c.what_counts_fits.ensures.ts_i;
      ts_r = c.what_counts_fits.ensures.ts_r;
      made = c.pairs_have_few_selectors.ensures.made;
      accepted = c.pairs_have_few_selectors.ensures.accepted;
    } in
    few_made laws

pub returns-clause-accepted : goal.returns-clause-accepted
returns-clause-accepted c =
    let laws : FewLaws = record {
      read = c.what_is_read_fits.ensures;
      ts_i = c.what_counts_fits.ensures.ts_i;
      ts_r = c.what_counts_fits.ensures.ts_r;
      made = c.pairs_have_few_selectors.ensures.made;
      accepted = c.pairs_have_few_selectors.ensures.accepted;
    } in
    few_accepted laws
