use Rattle.wire.proofs.SizeLemmas.{message_made}
use Rattle.wire.proofs.laws.messages_that_fit_are_spelled.Goals as goal

pub returns : goal.returns
returns c = message_made
