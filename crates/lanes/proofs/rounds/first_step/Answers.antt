use Rattle.std.proofs.Common.{refl}
use Rattle.sha2.proofs.Schedule256.{rounds_first}
use Rattle.lanes.specs.Lane.{lane}
use Rattle.lanes.proofs.LaneLemmas.{lane_at}
use Rattle.lanes.proofs.rounds.first_step.Goals as goal

pub returns : goal.returns
returns c = λ j fits b h window held.
    rounds_first b h (lane j c.args.w.now) (lane j c.args.v) c.args.t _ _ _ c.requires window held refl (lane_at j c.args.w.now c.args.t) (c.round.ensures j fits)
