use Rattle.laws_opening.proofs.CookieLemmas.{asks_for_another, asks_for_cookie}
use Rattle.laws_opening.proofs.laws.a_gateway_under_load_asks_for_a_cookie.Goals as goal

pub returns-clause-none : goal.returns-clause-none
returns-clause-none g c =
    asks_for_cookie c.octets_spell_one_message.ensures.message c.plain_spellings_are_spellings.ensures.message c.what_is_spelled_has_no_fault.ensures
    c.judgements_are_determined.ensures

pub returns-clause-wrong : goal.returns-clause-wrong
returns-clause-wrong g c =
    asks_for_another c.octets_spell_one_message.ensures.message c.plain_spellings_are_spellings.ensures.message c.what_is_spelled_has_no_fault.ensures
    c.judgements_are_determined.ensures
