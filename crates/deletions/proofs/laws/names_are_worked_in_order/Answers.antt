use Rattle.deletions.proofs.LeftLemmas.{left_over}
use Rattle.deletions.proofs.NamingLemmas.{in_order, named_twice, no_more, one_more}
use Rattle.deletions.proofs.laws.names_are_worked_in_order.Goals as goal

pub returns-clause-left : goal.returns-clause-left
returns-clause-left c = left_over

pub returns-clause-goes : goal.returns-clause-goes
returns-clause-goes c = λ pairs ike. one_more ike pairs

pub returns-clause-stays : goal.returns-clause-stays
returns-clause-stays c = λ pairs ike. no_more ike pairs

pub returns-clause-twice : goal.returns-clause-twice
returns-clause-twice c = λ pairs ike. named_twice ike pairs

pub returns-clause-later : goal.returns-clause-later
returns-clause-later c = λ pairs ike. in_order ike pairs
