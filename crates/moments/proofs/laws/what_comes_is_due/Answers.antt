use Rattle.moments.proofs.TimelyLemmas.{what_comes}
use Rattle.moments.proofs.laws.what_comes_is_due.Goals as goal

pub returns : goal.returns
returns c = what_comes
