use Rattle.ike.proofs.ReleasedLemmas.{reservations_stay_held}
use Rattle.ike.proofs.laws.soundness.no_spi_is_lost.Goals as goal

pub returns-clause-begun : goal.returns-clause-begun
returns-clause-begun c = λ config table none spi there. absurd (none spi there)

pub returns-clause-stepped : goal.returns-clause-stepped
returns-clause-stepped c = reservations_stay_held (record {
  message = c.what_is_given_up_is_released.ensures.message;
  request = c.what_is_given_up_is_released.ensures.request;
  given = c.what_is_given_up_is_released.ensures.given;
  over = c.what_is_given_up_is_released.ensures.over;
  own = c.a_further_spi_is_held.ensures.own;
})

pub returns-clause-kept : goal.returns-clause-kept
returns-clause-kept c = λ held table new_table less holds spi there. holds spi (less spi there)
