use Rattle.std.proofs.lemmas.Result.{err_from_is_err_and}
use Rattle.wire.specs.Writing.{each_onto, attribute_onto}
use Rattle.wire.proofs.WritingLoops.{each_next, each_stops, each_done}
use Rattle.wire.proofs.proposal.write_attributes.Goals as goal

pub returns-in_err-write_attribute : goal.returns-in_err-write_attribute
returns-in_err-write_attribute c =
    let p = err_from_is_err_and c.from_residual.result c.from_residual.ensures.1 in
    rw (p.1, p.2) (each_stops attribute_onto c.in_err-write_attribute.field-0.0 c.args.attributes.now c.loop-attribute.attribute-index c.attribute-item.result c.loop-attribute.out.items (each_onto attribute_onto c.args.attributes.now c.args.out.now.items) c.loop-attribute-test.true c.attribute-item.is c.loop-attribute.invariant c.in_err-write_attribute.ensures)

pub loop-attribute-preserved : goal.loop-attribute-preserved
loop-attribute-preserved c = each_next attribute_onto c.args.attributes.now c.loop-attribute.attribute-index c.attribute-item.result c.loop-attribute.out.items c.write_attribute.new.out.items (each_onto attribute_onto c.args.attributes.now c.args.out.now.items) c.loop-attribute-test.true c.attribute-item.is c.loop-attribute.invariant c.in_ok-write_attribute.ensures

pub returns : goal.returns
returns c = each_done attribute_onto c.args.attributes.now c.loop-attribute.attribute-index c.loop-attribute.out.items (each_onto attribute_onto c.args.attributes.now c.args.out.now.items) c.loop-attribute-test.false c.loop-attribute.invariant
