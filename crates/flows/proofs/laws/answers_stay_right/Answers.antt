use Rattle.flows.proofs.StayingLemmas.{all_right_still}
use Rattle.flows.proofs.laws.answers_stay_right.Goals as goal

pub returns-clause-stay : goal.returns-clause-stay
returns-clause-stay c = all_right_still

pub returns-clause-none : goal.returns-clause-none
returns-clause-none c = λ policy pairs memory none flow treatment is. absurd (none _ is.held)
