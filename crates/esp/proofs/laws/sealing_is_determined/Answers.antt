use Rattle.esp.proofs.SealingLaws.{one_run}
use Rattle.esp.proofs.laws.sealing_is_determined.Goals as goal

pub returns : goal.returns
returns c = λ k next s t u payloads before after other first second. one_run s next _ before t u after other first.run second.run
