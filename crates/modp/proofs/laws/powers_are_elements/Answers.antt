use Rattle.modp.proofs.PowerLemmas.{power_lt}
use Rattle.modp.proofs.laws.powers_are_elements.Goals as goal

pub returns : goal.returns
returns c = power_lt
