use Rattle.policy.proofs.PointLemmas.{families_apart}
use Rattle.policy.proofs.laws.families_are_apart.Goals as goal

pub returns : goal.returns
returns c = families_apart
