use Rattle.std.proofs.Common.{get_or}
use Rattle.std.proofs.lemmas.Result.{err_from_is_err_and}
use Rattle.wire.specs.Writing.{each_onto, number_onto}
use Rattle.wire.proofs.WritingLoops.{each_next, each_stops, each_done, any_default}
use Rattle.wire.proofs.deletions.write_spis.Goals as goal

pub returns-in_err-push_u32 : goal.returns-in_err-push_u32
returns-in_err-push_u32 c =
    let p = err_from_is_err_and c.from_residual.result c.from_residual.ensures.1 in
    rw (p.1, p.2) (each_stops (number_onto 4) c.in_err-push_u32.field-0.0 c.args.spis.now c.loop-spi.spi-index (get_or c.args.spis.now c.loop-spi.spi-index 0) c.loop-spi.out.items (each_onto (number_onto 4) c.args.spis.now c.args.out.now.items) c.loop-spi-test.true (any_default c.args.spis.now c.loop-spi.spi-index 0 c.loop-spi-test.true) c.loop-spi.invariant c.in_err-push_u32.ensures)

pub loop-spi-preserved : goal.loop-spi-preserved
loop-spi-preserved c = each_next (number_onto 4) c.args.spis.now c.loop-spi.spi-index (get_or c.args.spis.now c.loop-spi.spi-index 0) c.loop-spi.out.items c.push_u32.new.out.items (each_onto (number_onto 4) c.args.spis.now c.args.out.now.items) c.loop-spi-test.true (any_default c.args.spis.now c.loop-spi.spi-index 0 c.loop-spi-test.true) c.loop-spi.invariant c.in_ok-push_u32.ensures

pub returns : goal.returns
returns c = each_done (number_onto 4) c.args.spis.now c.loop-spi.spi-index c.loop-spi.out.items (each_onto (number_onto 4) c.args.spis.now c.args.out.now.items) c.loop-spi-test.false c.loop-spi.invariant
