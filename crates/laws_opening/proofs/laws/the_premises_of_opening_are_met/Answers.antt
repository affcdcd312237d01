use Rattle.laws_opening.proofs.WorkedLemmas.{is_met}
use Rattle.laws_opening.proofs.laws.the_premises_of_opening_are_met.Goals as goal

pub returns : goal.returns
returns g c a b = is_met a b (c.the_premises_are_met_from_new_gateways_on.ensures a b)
