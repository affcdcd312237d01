use Rattle.requests.proofs.FollowingLemmas.{after_issuing, after_counting, after_replacing, after_withdrawing, after_giving_up}
use Rattle.requests.proofs.laws.later_outgoing_follow.Goals as goal

pub returns-clause-issuing : goal.returns-clause-issuing
returns-clause-issuing g c = after_issuing

pub returns-clause-counting : goal.returns-clause-counting
returns-clause-counting g c = after_counting

pub returns-clause-replacing : goal.returns-clause-replacing
returns-clause-replacing g c = after_replacing

pub returns-clause-giving_up : goal.returns-clause-giving_up
returns-clause-giving_up g c = after_giving_up

pub returns-clause-withdrawing : goal.returns-clause-withdrawing
returns-clause-withdrawing g c = after_withdrawing
