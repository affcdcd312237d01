use Rattle.std.proofs.Common.{subst, sym, ap}
use Rattle.std.specs.FinSet as set
use Rattle.requests.specs.Numbers.{NumberSet}
use Rattle.requests.specs.Outgoing.{IsOutstanding}
use Rattle.requests.specs.Storage.{Held, AreOutgoing}
use Rattle.requests.proofs.OutgoingLemmas.{counts}
use Rattle.requests.proofs.outgoing.Outgoing.count.Goals as goal

pub invariant_of-self : goal.invariant_of-self
invariant_of-self g c =
    subst (λ (s : NumberSet). AreOutgoing c.self.inside.next c.self.inside.window s c.remove.new.self.items) (sym c.insert.ensures)
    (subst (λ m. AreOutgoing c.self.inside.next c.self.inside.window (set.insert c.self.inside.answered c.args.number) m) (sym (ap (λ (h : Held _). h.items) c.remove.ensures.content))
    (counts c.self.inside.next c.self.inside.window c.self.inside.outstanding.room c.self.inside.answered c.self.inside.outstanding.items c.self.invariant c.args.number (subst (λ r. IsOutstanding r c.args.number) (sym c.self.view_is) c.requires)))
