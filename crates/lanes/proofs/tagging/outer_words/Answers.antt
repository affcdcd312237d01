use Rattle.lanes.specs.Lane.{lane}
use Rattle.lanes.proofs.LaneLemmas.{lane_at}
use Rattle.lanes.proofs.TaggingLemmas.{outer_words-is}
use Rattle.lanes.proofs.tagging.outer_words.Goals as goal

pub returns : goal.returns
returns c = λ j fits below. rw (lane_at j c.args.digest.now 0, lane_at j c.args.digest.now 1, lane_at j c.args.digest.now 2, lane_at j c.args.digest.now 3, lane_at j c.args.digest.now 4, lane_at j c.args.digest.now 5, lane_at j c.args.digest.now 6, lane_at j c.args.digest.now 7, c.each.ensures j fits, c.each-zero.ensures j fits, c.each-2.ensures j fits)
    (outer_words-is (lane j c.args.digest.now) below)
