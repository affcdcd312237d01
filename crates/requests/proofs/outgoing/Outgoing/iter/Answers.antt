use Rattle.std.specs.FinMap as map
use Rattle.requests.proofs.OrderLemmas.{above_none}
use Rattle.requests.proofs.outgoing.Outgoing.iter.Goals as goal

pub returns : goal.returns
returns g c = above_none (map.entries c.args.self.now.outstanding)
