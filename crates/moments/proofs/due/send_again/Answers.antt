use Rattle.std.proofs.Common.{refl}
use Rattle.moments.proofs.DueLemmas.{all_sent, fewer_left, none_yet, restarted}
use Rattle.moments.proofs.due.send_again.Goals as goal

pub loop-next-init : goal.loop-next-init
loop-next-init c = none_yet c.args.now c.args.association.now

pub loop-next-preserved : goal.loop-next-preserved
loop-next-preserved c = restarted c.loop-next.number c.args.now c.args.association.now c.loop-next.association _ c.in-Some.next _ c.loop-next.invariant c.in-Some.ensures.some c.restart.ensures.restarts refl

pub loop-next-smaller : goal.loop-next-smaller
loop-next-smaller c = fewer_left c.loop-next.number c.in-Some.next c.in-Some.ensures.some.above c.restart.ensures.fits

pub returns : goal.returns
returns c = all_sent c.loop-next.number c.args.now c.args.association.now c.loop-next.association c.loop-next.invariant (c.in_default.ensures {u = tt}).none
