use Rattle.sadb.proofs.FollowingLemmas.{one_pair_for_ever}
use Rattle.sadb.proofs.laws.an_spi_names_one_pair.Goals as goal

pub returns : goal.returns
returns c = one_pair_for_ever
