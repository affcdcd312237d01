use Rattle.caller_peer.proofs.SealedLemmas.{sealed_exactly}
use Rattle.caller_peer.proofs.laws.bodies_are_sealed_as_said.Goals as goal

pub returns : goal.returns
returns c = sealed_exactly
