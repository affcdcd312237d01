use Rattle.std.proofs.Common.{refl}
use Rattle.lanes.proofs.LaneLemmas.{lane_at}
use Rattle.lanes.proofs.rounds.round.Goals as goal

pub returns : goal.returns
returns c = λ j fits. rw (c.add-4.ensures j fits, c.add-5.ensures j fits, c.add-temp1.ensures j fits, c.add-3.ensures j fits, c.add-2.ensures j fits, c.add.ensures j fits, c.big_sigma1.ensures j fits, c.ch.ensures j fits, c.each.ensures j fits, c.add-temp2.ensures j fits, c.big_sigma0.ensures j fits, c.maj.ensures j fits, lane_at j c.args.v 0, lane_at j c.args.v 1, lane_at j c.args.v 2, lane_at j c.args.v 3, lane_at j c.args.v 4, lane_at j c.args.v 5, lane_at j c.args.v 6, lane_at j c.args.v 7) refl
