use Rattle.laws_two_ends.proofs.WorkedRunLemmas.{worked_run_is}
use Rattle.laws_two_ends.proofs.laws.the_premises_are_met_from_new_gateways_on.Goals as goal

pub returns : goal.returns
returns g c =
    λ a b.
    worked_run_is a b c.soundness_stays.ensures c.no_spi_is_lost.ensures.stepped c.octets_spell_one_message.ensures.message
    c.what_was_sent_under_keys_is_told.ensures.one c.new_worlds_are_wholly_sound.ensures
