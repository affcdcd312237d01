use Rattle.laws_worked.proofs.GivenUpLemmas.{given_up_is}
use Rattle.laws_worked.proofs.laws.the_premises_of_a_request_that_is_given_up_are_met_from_new_gateways_on.Goals as goal

pub returns : goal.returns
returns g c =
    λ a b.
    given_up_is a b (record { stays = c.soundness_stays.ensures; lost = c.no_spi_is_lost.ensures.stepped; timely = c.what_is_due_comes_in_time.ensures.timely; comes = c.what_is_due_comes_in_time.ensures.comes })
