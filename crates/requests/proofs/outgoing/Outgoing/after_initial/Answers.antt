use Rattle.std.proofs.Common.{ap}
use Rattle.requests.specs.Storage.{Held}
use Rattle.requests.proofs.OutgoingLemmas.{begins_answered}
use Rattle.requests.proofs.outgoing.Outgoing.after_initial.Goals as goal

pub invariant_of-result : goal.invariant_of-result
invariant_of-result g c = begins_answered c.zero.result c.new.result.items c.zero.ensures (ap (λ (h : Held _). h.items) c.new.ensures)
