use Rattle.esp.proofs.WorkedLemmas.{repeated_is_worked, crossing_is_worked}
use Rattle.esp.proofs.laws.premise_is_met.Goals as goal

pub returns-clause-repeated : goal.returns-clause-repeated
returns-clause-repeated c = repeated_is_worked

pub returns-clause-crossing : goal.returns-clause-crossing
returns-clause-crossing c = crossing_is_worked
