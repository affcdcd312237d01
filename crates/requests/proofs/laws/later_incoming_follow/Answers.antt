use Rattle.requests.proofs.FollowingLemmas.{after_preparing, after_sizing, after_taking, follows_again, follows_itself}
use Rattle.requests.proofs.laws.later_incoming_follow.Goals as goal

pub returns-clause-reflexive : goal.returns-clause-reflexive
returns-clause-reflexive c = follows_itself

pub returns-clause-transitive : goal.returns-clause-transitive
returns-clause-transitive c = follows_again

pub returns-clause-preparing : goal.returns-clause-preparing
returns-clause-preparing c = after_preparing

pub returns-clause-taking : goal.returns-clause-taking
returns-clause-taking c = after_taking

pub returns-clause-sizing : goal.returns-clause-sizing
returns-clause-sizing c = after_sizing
