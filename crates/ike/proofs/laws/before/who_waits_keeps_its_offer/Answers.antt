use Rattle.ike.proofs.OfferedLemmas.{waits_on}
use Rattle.ike.proofs.laws.before.who_waits_keeps_its_offer.Goals as goal

pub returns : goal.returns
returns c = λ meaning entries input old table stepped new new_table was is sent how waits.
    waits_on (record { itself = c.associations_stay_themselves.ensures; held = c.some_are_held_on.ensures.held })
    meaning entries input old table new.held new_table was is sent how waits
