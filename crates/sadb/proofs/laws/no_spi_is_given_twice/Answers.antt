use Rattle.sadb.proofs.FollowingLemmas.{given_once}
use Rattle.sadb.proofs.laws.no_spi_is_given_twice.Goals as goal

pub returns : goal.returns
returns c = given_once
