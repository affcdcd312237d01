use Rattle.gateway.proofs.FittingLemmas.{step_few}
use Rattle.gateway.proofs.laws.outputs.few_go_out_again.Goals as goal

pub returns : goal.returns
returns g c = λ meaning given said trace old new is. step_few c.few_go_out_again.ensures meaning given said trace old new is
