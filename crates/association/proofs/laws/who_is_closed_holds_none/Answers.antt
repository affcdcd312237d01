use Rattle.association.proofs.HeldLemmas.{none_held}
use Rattle.association.proofs.laws.who_is_closed_holds_none.Goals as goal

pub returns : goal.returns
returns c = none_held
