use Rattle.wire.specs.Sizes.{selector_size}
use Rattle.wire.proofs.SizeLemmas.{counted_whole}
use Rattle.wire.proofs.size.selectors_size.Goals as goal

pub returns : goal.returns
returns c = counted_whole selector_size c.args.selectors.now c.loop-selector.size c.loop-selector.selector-index c.loop-selector-test.false c.loop-selector.invariant.0 c.loop-selector.invariant.1
