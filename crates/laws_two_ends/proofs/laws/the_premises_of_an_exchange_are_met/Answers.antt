use Rattle.laws_two_ends.proofs.WorkedExchangeLemmas.{worked_exchange_is}
use Rattle.laws_two_ends.proofs.laws.the_premises_of_an_exchange_are_met.Goals as goal

pub returns : goal.returns
returns g c =
    λ a b.
    worked_exchange_is a b c.soundness_stays.ensures c.no_spi_is_lost.ensures.stepped c.octets_spell_one_message.ensures.message
    c.what_was_sent_under_keys_is_told.ensures.one c.new_worlds_are_wholly_sound.ensures
