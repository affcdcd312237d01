use Rattle.effects.proofs.KeepingLemmas.{keys_come, keys_remain, keys_there, none_again, none_before}
use Rattle.effects.proofs.laws.keyed.keys_stay.Goals as goal

pub returns-clause-stay : goal.returns-clause-stay
returns-clause-stay c = keys_remain (record { why = c.repeats_say_why.ensures })

pub returns-clause-keyed : goal.returns-clause-keyed
returns-clause-keyed c = keys_there (record { why = c.repeats_say_why.ensures })

pub returns-clause-come : goal.returns-clause-come
returns-clause-come c = keys_come (record { why = c.repeats_say_why.ensures })

pub returns-clause-none : goal.returns-clause-none
returns-clause-none c = none_before

pub returns-clause-again : goal.returns-clause-again
returns-clause-again c = none_again
