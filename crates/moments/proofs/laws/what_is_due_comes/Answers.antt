use Rattle.moments.proofs.ComingLemmas.{something_comes}
use Rattle.moments.proofs.laws.what_is_due_comes.Goals as goal

pub returns : goal.returns
returns c = something_comes
