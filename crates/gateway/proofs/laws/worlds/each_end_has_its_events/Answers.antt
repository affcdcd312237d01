use Rattle.gateway.proofs.WorldHistoryLemmas.{history_at}
use Rattle.gateway.proofs.WorldLemmas.{apart}
use Rattle.gateway.proofs.laws.worlds.each_end_has_its_events.Goals as goal

pub returns-clause-run : goal.returns-clause-run
returns-clause-run g c = λ meaning_of end events outputs old new run. apart meaning_of end events outputs old new run

pub returns-clause-history : goal.returns-clause-history
returns-clause-history g c = λ meaning_of end events outputs old new happenings history. history_at meaning_of end events outputs old new happenings history
