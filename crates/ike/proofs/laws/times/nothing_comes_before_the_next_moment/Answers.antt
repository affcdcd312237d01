use Rattle.ike.proofs.NextLemmas.{unrefused_before, untouched}
use Rattle.ike.proofs.laws.times.nothing_comes_before_the_next_moment.Goals as goal

pub returns : goal.returns
returns c = record { nothing = untouched c.nothing_comes_before_its_time.ensures.brings; unrefused = unrefused_before c.nothing_comes_before_its_time.ensures.comes }
