use Rattle.policy.proofs.LawLemmas.{first_choices}
use Rattle.policy.proofs.laws.first_choices_are_kept.Goals as goal

pub returns : goal.returns
returns c = first_choices
