use Rattle.modp.proofs.ElementLemmas.{power_of_trivial}
use Rattle.modp.proofs.laws.powers_of_trivial_are_trivial.Goals as goal

pub returns : goal.returns
returns c = power_of_trivial
