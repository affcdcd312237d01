use Rattle.std.proofs.Common.{arith}
use Rattle.lanes.proofs.MessageLemmas.{put-filled}
use Rattle.lanes.proofs.padding.put.Goals as goal

pub returns : goal.returns
returns c = λ before long held. rw (held, c.copy_from_slice.ensures.after) (put-filled before c.args.octets.now c.args.at _ long (omega arith))
