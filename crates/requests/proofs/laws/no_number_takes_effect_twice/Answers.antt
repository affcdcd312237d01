use Rattle.requests.proofs.FollowingLemmas.{taken_once}
use Rattle.requests.proofs.laws.no_number_takes_effect_twice.Goals as goal

pub returns : goal.returns
returns c = taken_once
