use Rattle.esp.proofs.Runs.{run_joined}
use Rattle.esp.proofs.laws.runs_in_a_row_are_one_run.Goals as goal

pub returns : goal.returns
returns g c = λ r s t bs cs xs ys first second. run_joined _ r bs xs s cs ys t first second
