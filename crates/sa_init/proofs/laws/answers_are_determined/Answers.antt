use Rattle.sa_init.proofs.DeterminedAnswers.{one_answer, one_response}
use Rattle.sa_init.proofs.laws.answers_are_determined.Goals as goal

pub returns-clause-response : goal.returns-clause-response
returns-clause-response c = one_response

pub returns-clause-answer : goal.returns-clause-answer
returns-clause-answer c = one_answer c.plain_spellings_are_determined.ensures.message
