use Rattle.effects.proofs.SpiLemmas.{pairs_left}
use Rattle.effects.proofs.laws.staying.pairs_stay_as_they_were.Goals as goal

pub returns : goal.returns
returns c = pairs_left
