use Rattle.std.proofs.Common.{subst, sym, take}
use Rattle.std.proofs.lemmas.List.{take_all}
use Rattle.std.proofs.lemmas.List.Elements.{All-more, All-same}
use Rattle.association.specs.Closing.{HoldsNoSpi}
use Rattle.test_scripts.proofs.tests.of_moments.none_waits_for_child.Goals as goal

pub loop-association-preserved : goal.loop-association-preserved
loop-association-preserved c =
    All-more HoldsNoSpi c.args.associations.now c.loop-association.association-index c.association-item.result c.loop-association-test.true c.loop-association.invariant
    (subst HoldsNoSpi c.association-item.is c.if-holds_spi.ensures)

pub returns : goal.returns
returns c =
    All-same HoldsNoSpi c.args.associations.now (take c.loop-association.association-index c.args.associations.now)
    (sym (take_all c.loop-association.association-index c.args.associations.now c.loop-association-test.false)) c.loop-association.invariant
