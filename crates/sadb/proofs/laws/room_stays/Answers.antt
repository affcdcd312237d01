use Rattle.sadb.proofs.ReadyLemmas.{ready_after_releasing, ready_after_removing, ready_after_changing}
use Rattle.sadb.proofs.laws.room_stays.Goals as goal

pub returns-clause-releasing : goal.returns-clause-releasing
returns-clause-releasing c = ready_after_releasing

pub returns-clause-removing : goal.returns-clause-removing
returns-clause-removing c = ready_after_removing

pub returns-clause-marking : goal.returns-clause-marking
returns-clause-marking c = λ old new serial ready is. ready_after_changing old new serial _ _ ready is.changed

pub returns-clause-opening : goal.returns-clause-opening
returns-clause-opening c = λ old new serial packet number next payload ready is. ready_after_changing old new serial _ _ ready is.changed

pub returns-clause-refusing : goal.returns-clause-refusing
returns-clause-refusing c = λ old new serial packet fault ready is. ready_after_changing old new serial _ _ ready is.changed

pub returns-clause-sealing : goal.returns-clause-sealing
returns-clause-sealing c = λ old new serial next payload before number after ready is. ready_after_changing old new serial _ _ ready is.changed
