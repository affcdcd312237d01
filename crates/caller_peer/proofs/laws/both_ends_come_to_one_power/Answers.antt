use Rattle.caller_peer.proofs.AgreedLemmas.{both_come_to_it}
use Rattle.caller_peer.proofs.laws.both_ends_come_to_one_power.Goals as goal

pub returns : goal.returns
returns c = both_come_to_it
