use Rattle.laws_worked.proofs.FurtherRunLemmas.{further_child_is}
use Rattle.laws_worked.proofs.laws.the_premises_of_an_additional_child_are_met_from_new_gateways_on.Goals as goal

pub returns : goal.returns
returns g c =
    λ a b.
    further_child_is a b (record { stays = c.soundness_stays.ensures; lost = c.no_spi_is_lost.ensures.stepped; timely = c.what_is_due_comes_in_time.ensures.timely; comes = c.what_is_due_comes_in_time.ensures.comes })
    c.octets_spell_one_message.ensures.message c.what_was_sent_under_keys_is_told.ensures.one c.new_worlds_are_wholly_sound.ensures
