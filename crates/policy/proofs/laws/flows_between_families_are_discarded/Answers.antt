use Rattle.policy.proofs.LawLemmas.{mixed_discarded}
use Rattle.policy.proofs.laws.flows_between_families_are_discarded.Goals as goal

pub returns : goal.returns
returns c = mixed_discarded
