use Rattle.std.proofs.Common.{ap}
use Rattle.requests.specs.Storage.{Held}
use Rattle.requests.proofs.IncomingLemmas.{begins_with_0}
use Rattle.requests.proofs.incoming.Incoming.after_initial.Goals as goal

pub invariant_of-result : goal.invariant_of-result
invariant_of-result c = begins_with_0 c.zero.result c.new.result.items c.zero.ensures (ap (λ (h : Held _). h.items) c.new.ensures)
