use Rattle.ike.proofs.FirstSentLemmas.{step_requests}
use Rattle.ike.proofs.laws.before.first_requests_tell_what_is_held.Goals as goal

pub returns : goal.returns
returns c = λ meaning entries input old table stepped new new_table serial octets is sent sound steps said there waits.
    step_requests (record { itself = c.associations_stay_themselves.ensures; held = c.some_are_held_on.ensures.held })
    meaning entries input old table stepped new new_table sound.held steps serial octets said is there sent waits
