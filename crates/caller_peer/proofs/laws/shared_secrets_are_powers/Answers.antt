use Rattle.caller_peer.proofs.AgreedLemmas.{shared_exactly}
use Rattle.caller_peer.proofs.laws.shared_secrets_are_powers.Goals as goal

pub returns : goal.returns
returns c = shared_exactly
