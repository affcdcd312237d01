use Rattle.caller_peer.proofs.ProvedLemmas.{accepted_exactly}
use Rattle.caller_peer.proofs.laws.proofs_are_of_the_first_peer.Goals as goal

pub returns : goal.returns
returns c = accepted_exactly
