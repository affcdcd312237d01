use Rattle.requests.proofs.SetLemmas.{shows_none, no_marks}
use Rattle.requests.proofs.numbers.NumberSet.new.Goals as goal

pub returns : goal.returns
returns c = shows_none

pub invariant_of-result : goal.invariant_of-result
invariant_of-result c = no_marks
