use Rattle.laws_recovery.proofs.RemovingLemmas as removing
use Rattle.laws_recovery.proofs.WaitingLemmas.{brought}
use Rattle.laws_recovery.proofs.laws.what_is_given_up_is_removed.Goals as goal

pub returns-clause-closed : goal.returns-clause-closed
returns-clause-closed g c = λ meaning_of now serial p is brings up.
    removing.closed now serial p
    (brought c.what_is_due_comes_in_time.ensures.comes c.what_is_due_comes_in_time.ensures.unrefused meaning_of now p is brings.told brings.taken)
    is.sound.machine.held up

pub returns-clause-stays : goal.returns-clause-stays
returns-clause-stays g c = λ meaning_of now serial at keys p is brings stands early.
    removing.stays now serial p
    (brought c.what_is_due_comes_in_time.ensures.comes c.what_is_due_comes_in_time.ensures.unrefused meaning_of now p is brings.told brings.taken)
    is.sound.machine.held keys at stands early

pub returns-clause-removed : goal.returns-clause-removed
returns-clause-removed g c = λ meaning_of now serial at keys p is brings stands late.
    removing.removed now serial p
    (brought c.what_is_due_comes_in_time.ensures.comes c.what_is_due_comes_in_time.ensures.unrefused meaning_of now p is brings.told brings.taken)
    is.sound.machine.held keys at stands late
