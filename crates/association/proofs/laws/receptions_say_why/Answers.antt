use Rattle.association.proofs.ReceivingLemmas.{answers_say_why, effects_say_why, initials_say_why}
use Rattle.association.proofs.laws.receptions_say_why.Goals as goal

pub returns-clause-effective : goal.returns-clause-effective
returns-clause-effective c = effects_say_why

pub returns-clause-answering : goal.returns-clause-answering
returns-clause-answering c = answers_say_why

pub returns-clause-initial : goal.returns-clause-initial
returns-clause-initial c = initials_say_why
