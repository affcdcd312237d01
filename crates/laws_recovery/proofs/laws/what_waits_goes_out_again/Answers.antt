use Rattle.std.proofs.Common.{subst, sym}
use Rattle.ike.specs.Machines.{Machine}
use Rattle.ike.specs.Moments.{WaitsAt}
use Rattle.laws_recovery.proofs.WaitingLemmas as waiting
use Rattle.laws_recovery.proofs.laws.what_waits_goes_out_again.Goals as goal

pub returns-clause-again : goal.returns-clause-again
returns-clause-again g c = λ meaning_of now serial number request p is brings waits due.
    waiting.again now serial number request p
    (waiting.brought c.what_is_due_comes_in_time.ensures.comes c.what_is_due_comes_in_time.ensures.unrefused meaning_of now p is brings.told brings.taken)
    is.sound.machine.held waits due

pub returns-clause-later : goal.returns-clause-later
returns-clause-later g c = λ meaning_of now serial number request p is brings waits due.
    waiting.later now serial number request p
    (waiting.brought c.what_is_due_comes_in_time.ensures.comes c.what_is_due_comes_in_time.ensures.unrefused meaning_of now p is brings.told brings.taken)
    is.sound.machine.held waits due

pub returns-clause-over : goal.returns-clause-over
returns-clause-over g c = λ meaning_of now serial number request p is brings waits due.
    waiting.over now serial number request p
    (waiting.brought c.what_is_due_comes_in_time.ensures.comes c.what_is_due_comes_in_time.ensures.unrefused meaning_of now p is brings.told brings.taken)
    is.sound.machine.held waits due

pub returns-clause-refused : goal.returns-clause-refused
returns-clause-refused g c = λ meaning_of now serial number request p is told short waits.
    subst (λ (m : Machine). WaitsAt m.held serial number request)
    (sym (waiting.stands_still c.what_is_due_comes_in_time.ensures.comes c.what_is_due_comes_in_time.ensures.unrefused meaning_of now p is told short)) waits
