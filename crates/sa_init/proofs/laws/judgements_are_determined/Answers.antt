use Rattle.sa_init.proofs.JudgementLemmas.{determined}
use Rattle.sa_init.proofs.laws.judgements_are_determined.Goals as goal

pub returns : goal.returns
returns c = determined c.choices_are_determined.ensures
