use Rattle.wire.specs.Sizes.{attribute_size}
use Rattle.wire.proofs.SizeLemmas.{counted_whole}
use Rattle.wire.proofs.size.attributes_size.Goals as goal

pub returns : goal.returns
returns c = counted_whole attribute_size c.args.attributes.now c.loop-attribute.size c.loop-attribute.attribute-index c.loop-attribute-test.false c.loop-attribute.invariant.0 c.loop-attribute.invariant.1
