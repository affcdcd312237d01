use Rattle.ike.proofs.ToldLemmas.{half_open_on}
use Rattle.ike.proofs.laws.before.who_is_half_open_was_so.Goals as goal

pub returns : goal.returns
returns c = λ meaning entries input old table stepped new new_table was is opened how waits.
    half_open_on c.requests_are_remembered.ensures.half_open meaning entries input old table new.held new_table was is opened how waits
