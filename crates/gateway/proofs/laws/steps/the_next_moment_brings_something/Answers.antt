use Rattle.gateway.proofs.NextLemmas.{brings}
use Rattle.gateway.proofs.laws.steps.the_next_moment_brings_something.Goals as goal

pub returns : goal.returns
returns g c = brings c.the_next_moment_brings_something.ensures c.what_is_due_comes_in_time.ensures.unrefused
