use Rattle.exchange.proofs.FittingLemmas.{few_octets, some_octets}
use Rattle.exchange.proofs.laws.cookies_are_short.Goals as goal

pub returns-clause-some : goal.returns-clause-some
returns-clause-some c = some_octets

pub returns-clause-few : goal.returns-clause-few
returns-clause-few c = few_octets
