use Rattle.deletions.proofs.RemovingLemmas.{same_after_removing}
use Rattle.deletions.proofs.laws.removals_are_determined.Goals as goal

pub returns : goal.returns
returns c = same_after_removing
