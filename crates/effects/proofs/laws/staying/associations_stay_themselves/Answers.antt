use Rattle.effects.proofs.SpiLemmas.{stays_itself}
use Rattle.effects.proofs.laws.staying.associations_stay_themselves.Goals as goal

pub returns : goal.returns
returns c = stays_itself
