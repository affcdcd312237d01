use Rattle.caller_peer.proofs.OpenedLemmas.{opens_exactly}
use Rattle.caller_peer.proofs.laws.bodies_open_as_made.Goals as goal

pub returns : goal.returns
returns c = opens_exactly
