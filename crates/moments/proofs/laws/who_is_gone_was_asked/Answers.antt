use Rattle.moments.proofs.TimelyLemmas.{gone_was_asked}
use Rattle.moments.proofs.laws.who_is_gone_was_asked.Goals as goal

pub returns : goal.returns
returns c = gone_was_asked
