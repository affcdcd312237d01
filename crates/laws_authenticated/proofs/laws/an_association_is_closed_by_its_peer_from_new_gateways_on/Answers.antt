use Rattle.laws_authenticated.proofs.WorkedClosingLemmas.{closed_by_its_peer}
use Rattle.laws_authenticated.proofs.laws.an_association_is_closed_by_its_peer_from_new_gateways_on.Goals as goal

pub returns : goal.returns
returns g c = λ a b. closed_by_its_peer a b c.soundness_stays.ensures c.no_spi_is_lost.ensures.stepped
