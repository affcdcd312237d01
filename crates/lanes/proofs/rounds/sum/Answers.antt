use Rattle.std.proofs.Common.{refl}
use Rattle.lanes.proofs.LaneLemmas.{lane_at}
use Rattle.lanes.proofs.rounds.sum.Goals as goal

pub returns : goal.returns
returns c = λ j fits. rw (c.add.ensures j fits, c.add-2.ensures j fits, c.add-3.ensures j fits, c.add-4.ensures j fits, c.add-5.ensures j fits, c.add-6.ensures j fits, c.add-7.ensures j fits, c.add-8.ensures j fits, lane_at j c.args.state.now 0, lane_at j c.args.state.now 1, lane_at j c.args.state.now 2, lane_at j c.args.state.now 3, lane_at j c.args.state.now 4, lane_at j c.args.state.now 5, lane_at j c.args.state.now 6, lane_at j c.args.state.now 7, lane_at j c.args.v.now 0, lane_at j c.args.v.now 1, lane_at j c.args.v.now 2, lane_at j c.args.v.now 3, lane_at j c.args.v.now 4, lane_at j c.args.v.now 5, lane_at j c.args.v.now 6, lane_at j c.args.v.now 7) refl
