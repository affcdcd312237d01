use Rattle.std.proofs.Common.{slice_index, nat_eq}
use Rattle.lanes.specs.Lane.{lane}
use Rattle.lanes.proofs.LaneLemmas.{lane_at, length-lane, one_of_8}
use Rattle.lanes.proofs.absorbing.choose_state.Goals as goal

pub returns : goal.returns
returns c = λ j fits. rw (c.choose.ensures j fits, c.choose-2.ensures j fits, c.choose-3.ensures j fits, c.choose-4.ensures j fits, c.choose-5.ensures j fits, c.choose-6.ensures j fits, c.choose-7.ensures j fits, c.choose-8.ensures j fits, lane_at j c.args.state.now 0, lane_at j c.args.state.now 1, lane_at j c.args.state.now 2, lane_at j c.args.state.now 3, lane_at j c.args.state.now 4, lane_at j c.args.state.now 5, lane_at j c.args.state.now 6, lane_at j c.args.state.now 7, lane_at j c.args.other.now 0, lane_at j c.args.other.now 1, lane_at j c.args.other.now 2, lane_at j c.args.other.now 3, lane_at j c.args.other.now 4, lane_at j c.args.other.now 5, lane_at j c.args.other.now 6, lane_at j c.args.other.now 7)
    (one_of_8 (nat_eq (slice_index c.args.test j) 0) (lane j c.args.other.now) (lane j c.args.state.now)
    (length-lane j c.args.other.now 8 c.told-other) (length-lane j c.args.state.now 8 c.told-state))
