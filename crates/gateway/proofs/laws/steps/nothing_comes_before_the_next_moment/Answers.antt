use Rattle.gateway.proofs.NextLemmas.{stays}
use Rattle.gateway.proofs.laws.steps.nothing_comes_before_the_next_moment.Goals as goal

pub returns : goal.returns
returns g c = stays c.nothing_comes_before_the_next_moment.ensures.nothing c.nothing_comes_before_the_next_moment.ensures.unrefused
