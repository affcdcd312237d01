use Rattle.wire.specs.Sizes.{transform_size}
use Rattle.wire.proofs.SizeLemmas.{counted_whole}
use Rattle.wire.proofs.size.transforms_size.Goals as goal

pub returns : goal.returns
returns c = counted_whole transform_size c.args.transforms.now c.loop-transform.size c.loop-transform.transform-index c.loop-transform-test.false c.loop-transform.invariant.0 c.loop-transform.invariant.1
