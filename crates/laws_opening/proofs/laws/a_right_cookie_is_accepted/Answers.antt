use Rattle.laws_opening.proofs.CookieLemmas.{answers_under_load}
use Rattle.laws_opening.proofs.laws.a_right_cookie_is_accepted.Goals as goal

pub returns : goal.returns
returns g c =
    answers_under_load c.octets_spell_one_message.ensures.message c.plain_spellings_are_spellings.ensures.message c.what_is_spelled_has_no_fault.ensures
    c.offers_are_answered.ensures.offers c.judgements_are_determined.ensures
