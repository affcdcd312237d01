use Rattle.ike.proofs.ToldLemmas.{reads_now, was_waiting}
use Rattle.ike.proofs.laws.before.who_asks_has_read.Goals as goal

pub returns-clause-read : goal.returns-clause-read
returns-clause-read c = λ meaning entries input old table stepped new new_table was is before told how waited waits.
    reads_now meaning entries input old table new.held new_table was is before told how waited waits

pub returns-clause-waited : goal.returns-clause-waited
returns-clause-waited c = λ meaning entries input old table stepped new new_table was is told how waits none.
    was_waiting (record { itself = c.associations_stay_themselves.ensures; held = c.some_are_held_on.ensures.held })
    meaning entries input old table new.held new_table was is told how waits none
