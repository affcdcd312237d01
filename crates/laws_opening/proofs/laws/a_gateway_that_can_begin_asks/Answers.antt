use Rattle.laws_opening.proofs.AskingLemmas.{asks_beside, still_waits}
use Rattle.laws_opening.proofs.laws.a_gateway_that_can_begin_asks.Goals as goal

pub returns-clause-asks : goal.returns-clause-asks
returns-clause-asks g c = asks_beside

pub returns-clause-waits : goal.returns-clause-waits
returns-clause-waits g c = still_waits
