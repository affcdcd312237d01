use Rattle.laws_authenticated.proofs.WorkedClosingLemmas.{stranger_left_out}
use Rattle.laws_authenticated.proofs.laws.a_stranger_is_left_out_from_new_gateways_on.Goals as goal

pub returns : goal.returns
returns g c = λ a b. stranger_left_out a b c.soundness_stays.ensures c.no_spi_is_lost.ensures.stepped c.octets_spell_one_message.ensures.message
