use Rattle.std.proofs.Common.{◌*◌, drop, take}
use Rattle.lanes.specs.Lane.{lane}
use Rattle.lanes.proofs.AbsorbingLemmas.{next-is}
use Rattle.lanes.proofs.absorbing.whole_step.Goals as goal

pub returns : goal.returns
returns c = λ j fits m octets start given has held.
    next-is start octets (lane j c.args.state) _ c.args.index m.count (c.requires.common j m given) held
    (c.compress.ensures j fits (take 64 (drop (c.args.index * 64) octets)) (c.whole_words_at.ensures j fits m octets given has))
