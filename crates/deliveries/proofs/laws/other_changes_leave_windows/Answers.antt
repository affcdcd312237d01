use Rattle.std.proofs.Common.{refl}
use Rattle.deliveries.proofs.ChangeLemmas.{brought, emptied, installed, joined, marked, prepared, released, removed, reserved, sealed, sent, unchanged}
use Rattle.deliveries.proofs.laws.other_changes_leave_windows.Goals as goal

pub returns-clause-transitive : goal.returns-clause-transitive
returns-clause-transitive c = joined

pub returns-clause-unchanged : goal.returns-clause-unchanged
returns-clause-unchanged c = λ d sound. unchanged d d sound refl

pub returns-clause-bringing : goal.returns-clause-bringing
returns-clause-bringing c = brought

pub returns-clause-preparing : goal.returns-clause-preparing
returns-clause-preparing c = prepared

pub returns-clause-reserving : goal.returns-clause-reserving
returns-clause-reserving c = reserved

pub returns-clause-releasing : goal.returns-clause-releasing
returns-clause-releasing c = released

pub returns-clause-installing : goal.returns-clause-installing
returns-clause-installing c = installed

pub returns-clause-removing : goal.returns-clause-removing
returns-clause-removing c = removed

pub returns-clause-emptying : goal.returns-clause-emptying
returns-clause-emptying c = emptied

pub returns-clause-marking : goal.returns-clause-marking
returns-clause-marking c = marked

pub returns-clause-sealing : goal.returns-clause-sealing
returns-clause-sealing c = sealed

pub returns-clause-sending : goal.returns-clause-sending
returns-clause-sending c = sent
