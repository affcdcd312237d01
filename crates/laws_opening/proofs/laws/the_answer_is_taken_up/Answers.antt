use Rattle.effects.specs.Taking.{meaning_of}
use Rattle.laws_opening.proofs.ReadingLemmas.{takes_up}
use Rattle.laws_opening.proofs.laws.the_answer_is_taken_up.Goals as goal

pub returns : goal.returns
returns g c = λ side a o shared room reading r.
    takes_up c.octets_spell_one_message.ensures.message c.plain_spellings_are_spellings.ensures.message c.what_is_spelled_has_no_fault.ensures
    c.offers_are_answered.ensures.offers c.answers_are_determined.ensures.response
    (meaning_of g.C.Sealer g.C.Agreement g.C.Proof) side a o shared room reading r c.both_ends_have_one_record.ensures.read
