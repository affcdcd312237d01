use Rattle.moments.proofs.HeldLemmas.{few_sent}
use Rattle.moments.proofs.laws.no_more_go_out_than_wait.Goals as goal

pub returns : goal.returns
returns c = few_sent
