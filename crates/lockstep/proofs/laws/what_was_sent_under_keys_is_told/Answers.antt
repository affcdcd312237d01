use Rattle.lockstep.proofs.KeyLemmas.{there_under, time_of_one, times_append, under_append, under_there}
use Rattle.lockstep.proofs.laws.what_was_sent_under_keys_is_told.Goals as goal

pub returns-clause-there : goal.returns-clause-there
returns-clause-there c = λ keys sent entry. (there_under keys sent entry, under_there keys sent entry)

pub returns-clause-later : goal.returns-clause-later
returns-clause-later c = under_append

pub returns-clause-counted : goal.returns-clause-counted
returns-clause-counted c = times_append

pub returns-clause-one : goal.returns-clause-one
returns-clause-one c = time_of_one
