use Rattle.requests.proofs.DeterminedNumbers.{same_after_preparing, judged_alike, same_after_taking}
use Rattle.requests.proofs.laws.later_incoming_are_determined.Goals as goal

pub returns-clause-prepared : goal.returns-clause-prepared
returns-clause-prepared c = same_after_preparing

pub returns-clause-judged : goal.returns-clause-judged
returns-clause-judged c = λ old other n judgement same is. judged_alike old other n same judgement is

pub returns-clause-taken : goal.returns-clause-taken
returns-clause-taken c = same_after_taking
