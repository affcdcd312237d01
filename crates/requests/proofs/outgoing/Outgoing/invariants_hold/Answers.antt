use Rattle.std.proofs.Common.{subst}
use Rattle.requests.specs.Outgoing.{IsSoundOutgoing}
use Rattle.requests.proofs.OutgoingLemmas.{outgoing_sound}
use Rattle.requests.proofs.outgoing.Outgoing.invariants_hold.Goals as goal

pub returns : goal.returns
returns g c =
    subst IsSoundOutgoing c.self.view_is
    (outgoing_sound c.self.inside.next c.self.inside.window c.self.inside.outstanding.room c.self.inside.answered c.self.inside.outstanding.items c.self.invariant c.gap.result c.gap.ensures.gap)
