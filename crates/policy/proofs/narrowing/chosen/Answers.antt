use Rattle.policy.proofs.NarrowLemmas.{chosen_some}
use Rattle.policy.proofs.narrowing.chosen.Goals as goal

pub returns : goal.returns
returns c = chosen_some c.args.entries.now c.args.offered_i.now c.args.offered_r.now c.first_that_fits_some.result c.in_default.ensures c.first_that_fits_some.ensures
