use Rattle.deliveries.proofs.NumberLemmas.{one_list}
use Rattle.deliveries.proofs.laws.numbers_are_determined.Goals as goal

pub returns : goal.returns
returns c = one_list
