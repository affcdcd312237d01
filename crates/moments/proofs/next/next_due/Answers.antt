use Rattle.std.proofs.Common.{arith}
use Rattle.moments.proofs.NextLemmas.{looked_all, looked_one, none_looked}
use Rattle.moments.proofs.next.next_due.Goals as goal

pub loop-association-init : goal.loop-association-init
loop-association-init c = none_looked c.args.associations.now

pub loop-association-preserved : goal.loop-association-preserved
loop-association-preserved c =
    looked_one c.loop-association.association-index c.loop-association.next c.next_of.result _ c.args.associations.now c.association-item.result c.loop-association.invariant (omega arith) c.association-item.is c.next_of.ensures.early
    c.next_of.ensures.due c.earlier-next.ensures

pub returns-clause-early : goal.returns-clause-early
returns-clause-early c = looked_all c.loop-association.association-index c.loop-association.next c.args.associations.now c.loop-association.invariant (omega arith)

pub returns-clause-due : goal.returns-clause-due
returns-clause-due c = c.loop-association.invariant.due
