use Rattle.lanes.specs.Lane.{lane}
use Rattle.lanes.specs.Padding.{after_a_block}
use Rattle.lanes.proofs.tagging.tags.Goals as goal

pub returns : goal.returns
returns c = λ j fits m key octets given has states.
    c.outer_tags.ensures j fits key octets (lane j c.args.inner) m.count states (c.absorb-digests.ensures j fits m (after_a_block octets) given has) has.whole
