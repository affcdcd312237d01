use Rattle.modp.proofs.ElementLemmas.{not_trivial_exactly}
use Rattle.modp.proofs.laws.others_are_from_2_to_the_prime_less_2.Goals as goal

pub returns : goal.returns
returns c = not_trivial_exactly
