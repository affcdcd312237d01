use Rattle.esp.proofs.Runs.{deliveries}
use Rattle.esp.proofs.laws.every_run_judges_at_most_once.Goals as goal

pub returns : goal.returns
returns g c = λ r s bs xs sound run. deliveries _ r bs xs s sound run
