use Rattle.ike.proofs.BeforeLemmas.{next_grows, step_came}
use Rattle.ike.proofs.laws.before.each_association_was_there_or_came.Goals as goal

pub returns-clause-each : goal.returns-clause-each
returns-clause-each c = λ meaning entries input old table stepped new new_table serial is sound steps there.
    step_came (record { itself = c.associations_stay_themselves.ensures; held = c.some_are_held_on.ensures.held })
    meaning entries input old table stepped new new_table sound.held steps serial is there

pub returns-clause-rising : goal.returns-clause-rising
returns-clause-rising c = next_grows
