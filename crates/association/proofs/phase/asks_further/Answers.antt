use Rattle.std.proofs.Common.{rules}
use Rattle.association.proofs.AwaitingLemmas.{further_told}
use Rattle.association.proofs.phase.asks_further.Goals as goal

pub returns : goal.returns
returns c = further_told c.args.requests.now _ (λ r b says. search rules) c.any.result c.any.ensures
