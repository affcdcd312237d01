use Rattle.lockstep.proofs.RunLemmas.{genuine_at_last}
use Rattle.lockstep.proofs.laws.what_was_sent_before_is_sent.Goals as goal

pub returns : goal.returns
returns c = genuine_at_last
