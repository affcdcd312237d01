use Rattle.esp.proofs.NumberLemmas.{judged_as_one, judged_positive, one_number_of}
use Rattle.esp.proofs.laws.a_packet_has_one_number.Goals as goal

pub returns-clause-number : goal.returns-clause-number
returns-clause-number c = one_number_of

pub returns-clause-judged : goal.returns-clause-judged
returns-clause-judged c = judged_as_one

pub returns-clause-positive : goal.returns-clause-positive
returns-clause-positive c = judged_positive
