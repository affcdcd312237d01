use Rattle.std.proofs.Common.{refl}
use Rattle.sha2.specs.Sha256.{first_words}
use Rattle.lanes.proofs.LaneLemmas.{lane_at}
use Rattle.lanes.proofs.blocks.words_in_lanes.Goals as goal

pub returns : goal.returns
unfolding first_words
returns c = λ j fits. rw (lane_at j c.four_of_each.result 0, lane_at j c.four_of_each.result 1, lane_at j c.four_of_each.result 2, lane_at j c.four_of_each.result 3, lane_at j c.four_of_each-2.result 0, lane_at j c.four_of_each-2.result 1, lane_at j c.four_of_each-2.result 2, lane_at j c.four_of_each-2.result 3, lane_at j c.four_of_each-3.result 0, lane_at j c.four_of_each-3.result 1, lane_at j c.four_of_each-3.result 2, lane_at j c.four_of_each-3.result 3, lane_at j c.four_of_each-4.result 0, lane_at j c.four_of_each-4.result 1, lane_at j c.four_of_each-4.result 2, lane_at j c.four_of_each-4.result 3, c.four_of_each.ensures j fits, c.four_of_each-2.ensures j fits, c.four_of_each-3.ensures j fits, c.four_of_each-4.ensures j fits) refl
