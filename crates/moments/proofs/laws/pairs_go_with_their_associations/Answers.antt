use Rattle.moments.proofs.TimelyLemmas.{pairs_go}
use Rattle.moments.proofs.laws.pairs_go_with_their_associations.Goals as goal

pub returns : goal.returns
returns c = pairs_go
