use Rattle.sadb.proofs.FollowingLemmas.{follows_again, as_before, after_reserving, after_releasing, after_installing, after_removing, after_emptying, after_marking, after_opening, after_refusing, after_sealing}
use Rattle.sadb.proofs.laws.later_tables_follow.Goals as goal

pub returns-clause-transitive : goal.returns-clause-transitive
returns-clause-transitive c = follows_again

pub returns-clause-preparing : goal.returns-clause-preparing
returns-clause-preparing c = as_before

pub returns-clause-reserving : goal.returns-clause-reserving
returns-clause-reserving c = after_reserving

pub returns-clause-releasing : goal.returns-clause-releasing
returns-clause-releasing c = after_releasing

pub returns-clause-installing : goal.returns-clause-installing
returns-clause-installing c = after_installing

pub returns-clause-removing : goal.returns-clause-removing
returns-clause-removing c = after_removing

pub returns-clause-marking : goal.returns-clause-marking
returns-clause-marking c = after_marking

pub returns-clause-opening : goal.returns-clause-opening
returns-clause-opening c = after_opening

pub returns-clause-refusing : goal.returns-clause-refusing
returns-clause-refusing c = after_refusing

pub returns-clause-sealing : goal.returns-clause-sealing
returns-clause-sealing c = after_sealing

pub returns-clause-emptying : goal.returns-clause-emptying
returns-clause-emptying c = after_emptying
