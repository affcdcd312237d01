use Rattle.std.proofs.Common.{ap}
use Rattle.requests.specs.Storage.{Held}
use Rattle.requests.proofs.OutgoingLemmas.{begins_unissued}
use Rattle.requests.proofs.outgoing.Outgoing.new.Goals as goal

pub invariant_of-result : goal.invariant_of-result
invariant_of-result g c = begins_unissued c.new.result c.new-2.result.items c.new.ensures (ap (λ (h : Held _). h.items) c.new-2.ensures)
