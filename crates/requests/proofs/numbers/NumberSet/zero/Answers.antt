use Rattle.requests.proofs.SetLemmas.{shows_zero, no_marks_at_1}
use Rattle.requests.proofs.numbers.NumberSet.zero.Goals as goal

pub returns : goal.returns
returns c = shows_zero

pub invariant_of-result : goal.invariant_of-result
invariant_of-result c = no_marks_at_1
