use Rattle.lockstep.proofs.KeyLemmas.{one_time}
use Rattle.lockstep.proofs.WorkedLemmas.{worked_at_once, worked_history, worked_takes}
use Rattle.lockstep.proofs.laws.premises_are_met.Goals as goal

pub returns-clause-history : goal.returns-clause-history
returns-clause-history c = worked_history

pub returns-clause-at_once : goal.returns-clause-at_once
returns-clause-at_once c = worked_at_once

pub returns-clause-once : goal.returns-clause-once
returns-clause-once c = λ keys request. one_time keys

pub returns-clause-turn : goal.returns-clause-turn
returns-clause-turn c = worked_takes
