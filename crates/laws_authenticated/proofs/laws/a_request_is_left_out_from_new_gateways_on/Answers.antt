use Rattle.gateway.proofs.PairRenaming.{pair_laws}
use Rattle.laws_authenticated.proofs.WorkedBesideLemmas.{left_out}
use Rattle.laws_authenticated.proofs.laws.a_request_is_left_out_from_new_gateways_on.Goals as goal
use Rattle.gateway.specs.Beside.{itself}

pub returns : goal.returns
returns g c = λ caller. left_out caller c.soundness_stays.ensures c.no_spi_is_lost.ensures.stepped c.octets_spell_one_message.ensures.message (pair_laws itself)
