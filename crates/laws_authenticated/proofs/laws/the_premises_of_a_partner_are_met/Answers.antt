use Rattle.laws_authenticated.proofs.WorkedPartnerLemmas.{worked_partner_is}
use Rattle.laws_authenticated.proofs.laws.the_premises_of_a_partner_are_met.Goals as goal

pub returns : goal.returns
returns g c = λ a b. worked_partner_is a b c.soundness_stays.ensures c.no_spi_is_lost.ensures.stepped
