use Rattle.modp.proofs.PowerLemmas.{powers_agree}
use Rattle.modp.proofs.laws.powers_of_powers_agree.Goals as goal

pub returns : goal.returns
returns c = powers_agree
