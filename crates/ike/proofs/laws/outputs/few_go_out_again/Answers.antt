use Rattle.ike.proofs.TraceLemmas.{step_few}
use Rattle.ike.proofs.laws.outputs.few_go_out_again.Goals as goal

pub returns : goal.returns
returns c = step_few c.no_more_go_out_than_wait.ensures
