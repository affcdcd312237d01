use Rattle.esp.proofs.HistoryLemmas.{at_most_once, exactly_at_first}
use Rattle.esp.proofs.laws.every_history_judges_at_most_once.Goals as goal

pub returns-clause-once : goal.returns-clause-once
returns-clause-once c = at_most_once

pub returns-clause-exactly : goal.returns-clause-exactly
returns-clause-exactly c = exactly_at_first
