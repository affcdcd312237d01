use Rattle.laws_two_ends.proofs.WorkedRecordLemmas.{worked_record_is}
use Rattle.laws_two_ends.proofs.laws.the_premises_of_one_record_are_met.Goals as goal

pub returns : goal.returns
returns c = worked_record_is
