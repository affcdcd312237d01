use Rattle.association.proofs.ReceivingLemmas.{effective_is_received}
use Rattle.association.proofs.laws.what_is_due_is_received.Goals as goal

pub returns : goal.returns
returns c = effective_is_received
