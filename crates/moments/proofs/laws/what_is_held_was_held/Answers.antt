use Rattle.moments.proofs.HeldLemmas.{held_stay}
use Rattle.moments.proofs.laws.what_is_held_was_held.Goals as goal

pub returns : goal.returns
returns c = held_stay
