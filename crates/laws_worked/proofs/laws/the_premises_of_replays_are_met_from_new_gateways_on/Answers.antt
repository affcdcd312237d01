use Rattle.laws_worked.proofs.ReplayRunLemmas.{replay_is}
use Rattle.laws_worked.proofs.laws.the_premises_of_replays_are_met_from_new_gateways_on.Goals as goal

pub returns : goal.returns
returns g c = λ a b. replay_is a b c.soundness_stays.ensures c.no_spi_is_lost.ensures.stepped
