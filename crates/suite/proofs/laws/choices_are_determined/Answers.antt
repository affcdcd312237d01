use Rattle.suite.proofs.DeterminedChoices.{one_choice}
use Rattle.suite.proofs.laws.choices_are_determined.Goals as goal

pub returns : goal.returns
returns c = one_choice
