use Rattle.ike.proofs.NextLemmas.{brought}
use Rattle.ike.proofs.laws.times.the_next_moment_brings_something.Goals as goal

pub returns : goal.returns
returns c = brought c.what_is_due_comes.ensures
