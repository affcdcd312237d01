use Rattle.deletions.proofs.RemovingLemmas.{live_are_there, others_stay}
use Rattle.deletions.proofs.laws.what_is_decided_can_be_removed.Goals as goal

pub returns-clause-there : goal.returns-clause-there
returns-clause-there c = live_are_there

pub returns-clause-distinct : goal.returns-clause-distinct
returns-clause-distinct c = λ pairs ike found are. are.distinct

pub returns-clause-others : goal.returns-clause-others
returns-clause-others c = others_stay
