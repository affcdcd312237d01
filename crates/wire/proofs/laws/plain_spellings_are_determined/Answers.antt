use Rattle.wire.proofs.DeterminedSpellings.{one_plain_message, one_plain_chain}
use Rattle.wire.proofs.laws.plain_spellings_are_determined.Goals as goal

pub returns-clause-message : goal.returns-clause-message
returns-clause-message c = one_plain_message

pub returns-clause-payloads : goal.returns-clause-payloads
returns-clause-payloads c = one_plain_chain
