use Rattle.std.proofs.Common.{ap, sym, subst, ℕ}
use Rattle.requests.specs.Storage.{Held, AreOutgoing}
use Rattle.requests.proofs.OutgoingLemmas.{begins_below}
use Rattle.requests.proofs.outgoing.tests.after_all_below.Goals as goal

pub invariant_of-result : goal.invariant_of-result
invariant_of-result c =
    subst (λ (next : ℕ). AreOutgoing next 1 c.all_below.result c.new.result.items) (sym c.from.ensures)
    (begins_below c.all_below.result c.new.result.items c.args.next c.ranges.next.fits c.all_below.ensures (ap (λ (h : Held _). h.items) c.new.ensures))
