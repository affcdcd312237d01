use Rattle.lockstep.proofs.MoveLemmas.{counted_in_order, taken_in_order}
use Rattle.lockstep.proofs.laws.windows_of_one_keep_order.Goals as goal

pub returns-clause-taken : goal.returns-clause-taken
returns-clause-taken c = λ old new sent others number reply sound size is. taken_in_order old new number reply sound.windows size is

pub returns-clause-counted : goal.returns-clause-counted
returns-clause-counted c = λ old new sent others number sound window is. counted_in_order old new number sound.windows window is
