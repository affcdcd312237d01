use Rattle.moments.proofs.DeterminedTicks.{one_tick}
use Rattle.moments.proofs.laws.ticks_are_determined.Goals as goal

pub returns : goal.returns
returns c = one_tick c.endings_are_determined.ensures
