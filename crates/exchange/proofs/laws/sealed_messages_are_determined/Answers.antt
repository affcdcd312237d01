use Rattle.exchange.proofs.DeterminedSealing.{one_sealed}
use Rattle.exchange.proofs.laws.sealed_messages_are_determined.Goals as goal

pub returns : goal.returns
returns c = one_sealed c.plain_spellings_are_determined.ensures.payloads
