use Rattle.laws_opening.proofs.BringingLemmas.{brings_beside, waits_again}
use Rattle.laws_opening.proofs.laws.the_cookie_is_brought.Goals as goal

pub returns-clause-brings : goal.returns-clause-brings
returns-clause-brings g c =
    brings_beside c.octets_spell_one_message.ensures.message c.plain_spellings_are_spellings.ensures.message c.what_is_spelled_has_no_fault.ensures

pub returns-clause-waits : goal.returns-clause-waits
returns-clause-waits g c = waits_again
