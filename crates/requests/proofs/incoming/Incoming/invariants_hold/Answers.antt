use Rattle.std.proofs.Common.{subst}
use Rattle.requests.specs.Incoming.{IsSoundIncoming}
use Rattle.requests.proofs.IncomingLemmas.{incoming_sound}
use Rattle.requests.proofs.incoming.Incoming.invariants_hold.Goals as goal

pub returns : goal.returns
returns c =
    subst IsSoundIncoming c.self.view_is
    (incoming_sound c.self.inside.in_effect c.self.inside.size c.self.inside.kept.room c.gap.result c.self.inside.kept.items c.self.invariant c.gap.ensures.gap c.gap.ensures.fits)
