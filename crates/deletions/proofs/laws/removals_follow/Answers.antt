use Rattle.deletions.proofs.RemovingLemmas.{after_removing}
use Rattle.deletions.proofs.laws.removals_follow.Goals as goal

pub returns : goal.returns
returns c = after_removing
