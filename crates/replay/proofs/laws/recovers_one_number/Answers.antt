use Rattle.replay.specs.Recovery.{one_number}
use Rattle.replay.proofs.laws.recovers_one_number.Goals as goal

pub returns : goal.returns
returns c = one_number
