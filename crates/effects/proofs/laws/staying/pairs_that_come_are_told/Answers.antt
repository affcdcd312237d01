use Rattle.effects.proofs.ToldLemmas.{pairs_told}
use Rattle.effects.proofs.laws.staying.pairs_that_come_are_told.Goals as goal

pub returns : goal.returns
returns c = pairs_told
