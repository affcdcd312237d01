use Rattle.gateway.proofs.WorldLemmas.{stays_stored}
use Rattle.gateway.proofs.laws.worlds.what_is_stored_stays.Goals as goal

pub returns : goal.returns
returns g c = λ meaning_of events outputs old new run. stays_stored meaning_of events outputs old new run
