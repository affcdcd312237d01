use Rattle.requests.proofs.FollowingLemmas.{one_after_taking}
use Rattle.requests.proofs.laws.judgements_are_determined.Goals as goal

pub returns-clause-taken : goal.returns-clause-taken
returns-clause-taken c = one_after_taking
