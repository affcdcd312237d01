use Rattle.std.proofs.Common.{arith}
use Rattle.moments.proofs.PassingLemmas.{all_passed, next_holds, none_passed, one_passed}
use Rattle.moments.proofs.ticking.pass_all.Goals as goal

pub loop-association-init : goal.loop-association-init
loop-association-init c = none_passed c.args.now c.args.associations.now c.args.table.now c.requires

pub pass-requires : goal.pass-requires
pass-requires c =
    next_holds c.args.now c.loop-association.association-index c.args.associations.now c.args.table.now c.loop-association.associations c.loop-association.table c.association-item.result (omega arith) c.loop-association.invariant

pub loop-association-preserved : goal.loop-association-preserved
loop-association-preserved c =
    one_passed c.args.now c.loop-association.association-index c.args.associations.now c.args.table.now c.loop-association.associations c.loop-association.table c.association-item.result c.pass.new.association
    c.pass.new.table c.loop-association-test.true (omega arith) c.loop-association.invariant c.pass.ensures

pub returns : goal.returns
returns c =
    all_passed c.args.now c.loop-association.association-index c.args.associations.now c.args.table.now c.loop-association.associations c.loop-association.table c.loop-association.auto.associations
    c.loop-association-test.false c.loop-association.invariant
