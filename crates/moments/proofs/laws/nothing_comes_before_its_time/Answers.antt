use Rattle.moments.proofs.HeldLemmas.{none_comes, untouched}
use Rattle.moments.proofs.laws.nothing_comes_before_its_time.Goals as goal

pub returns : goal.returns
returns c = record { comes = none_comes; brings = untouched }
