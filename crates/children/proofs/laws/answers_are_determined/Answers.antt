use Rattle.children.proofs.SameLemmas.{one_accepted, one_response}
use Rattle.children.proofs.laws.answers_are_determined.Goals as goal

pub returns-clause-response : goal.returns-clause-response
returns-clause-response c = one_response c.choices_are_determined.ensures c.narrowing_is_determined.ensures.narrowed

pub returns-clause-accepted : goal.returns-clause-accepted
returns-clause-accepted c = one_accepted c.choices_are_determined.ensures
