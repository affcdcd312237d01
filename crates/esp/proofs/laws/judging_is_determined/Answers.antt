use Rattle.esp.proofs.HistoryLemmas.{one_history}
use Rattle.esp.proofs.laws.judging_is_determined.Goals as goal

pub returns : goal.returns
returns c = λ r bs ns ms is other. one_history r.association r.window.size r.window.taken bs ns ms is other
