use Rattle.laws_opening.proofs.AskingLemmas.{asks}
use Rattle.laws_opening.proofs.laws.a_new_gateway_asks.Goals as goal

pub returns : goal.returns
returns g c = asks
