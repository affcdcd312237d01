use Rattle.std.proofs.Common.{subst, sym, ap}
use Rattle.requests.specs.Outgoing.{IsOutstanding}
use Rattle.requests.specs.Storage.{Held, AreOutgoing}
use Rattle.requests.proofs.OutgoingLemmas.{replaces}
use Rattle.requests.proofs.outgoing.Outgoing.update.Goals as goal

pub invariant_of-self : goal.invariant_of-self
invariant_of-self g c =
    subst (λ m. AreOutgoing c.self.inside.next c.self.inside.window c.self.inside.answered m) (sym (ap (λ (h : Held _). h.items) c.update.ensures.content))
    (replaces c.self.inside.next c.self.inside.window c.self.inside.outstanding.room c.self.inside.answered c.self.inside.outstanding.items c.self.invariant c.args.number c.update.ensures.is (subst (λ r. IsOutstanding r c.args.number) (sym c.self.view_is) c.requires.outstanding))
