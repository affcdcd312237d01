use Rattle.std.proofs.Common.{sym}
use Rattle.lanes.specs.Lane.{lane}
use Rattle.lanes.proofs.LaneLemmas.{apart, lane_at, length-lane}
use Rattle.lanes.proofs.blocks.with_lane.Goals as goal

pub returns-clause-here : goal.returns-clause-here
returns-clause-here c = rw (c.with_word.ensures.here, c.with_word-2.ensures.here, c.with_word-3.ensures.here, c.with_word-4.ensures.here, c.with_word-5.ensures.here, c.with_word-6.ensures.here, c.with_word-7.ensures.here, c.with_word-8.ensures.here) (sym (apart c.args.words.now c.told-words))

pub returns-clause-others : goal.returns-clause-others
returns-clause-others c = λ k other. rw (c.with_word.ensures.others k other, c.with_word-2.ensures.others k other, c.with_word-3.ensures.others k other, c.with_word-4.ensures.others k other, c.with_word-5.ensures.others k other, c.with_word-6.ensures.others k other, c.with_word-7.ensures.others k other, c.with_word-8.ensures.others k other, lane_at k c.args.state.now 0, lane_at k c.args.state.now 1, lane_at k c.args.state.now 2, lane_at k c.args.state.now 3, lane_at k c.args.state.now 4, lane_at k c.args.state.now 5, lane_at k c.args.state.now 6, lane_at k c.args.state.now 7) (sym (apart (lane k c.args.state.now) (length-lane k c.args.state.now 8 c.told-state)))
