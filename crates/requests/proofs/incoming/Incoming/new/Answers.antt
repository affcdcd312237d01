use Rattle.std.proofs.Common.{ap}
use Rattle.requests.specs.Storage.{Held}
use Rattle.requests.proofs.IncomingLemmas.{begins_empty}
use Rattle.requests.proofs.incoming.Incoming.new.Goals as goal

pub invariant_of-result : goal.invariant_of-result
invariant_of-result c = begins_empty c.new.result c.new-2.result.items c.new.ensures (ap (λ (h : Held _). h.items) c.new-2.ensures)
