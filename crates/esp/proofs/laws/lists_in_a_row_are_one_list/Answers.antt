use Rattle.esp.proofs.SealingLaws.{one_list}
use Rattle.esp.proofs.laws.lists_in_a_row_are_one_list.Goals as goal

pub returns : goal.returns
returns c = one_list
