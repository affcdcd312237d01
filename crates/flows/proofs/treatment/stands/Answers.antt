use Rattle.flows.proofs.StayingLemmas.{live_there}
use Rattle.flows.proofs.treatment.stands.Goals as goal

pub returns-in-Some : goal.returns-in-Some
returns-in-Some c = live_there c.args.table.now.pairs c.args.serial c.in-Some.pair.now c.is_live.result c.in-Some.ensures c.is_live.ensures
