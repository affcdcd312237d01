use Rattle.laws_recovery.proofs.BeginningLemmas as beginning
use Rattle.laws_recovery.proofs.laws.start_begins_anew.Goals as goal

pub returns-clause-exactly : goal.returns-clause-exactly
returns-clause-exactly g c = λ meaning_of place fresh p is given. beginning.exactly meaning_of place fresh p is given

pub returns-clause-either : goal.returns-clause-either
returns-clause-either g c = λ meaning_of place fresh p is given. beginning.either meaning_of place fresh p is given
