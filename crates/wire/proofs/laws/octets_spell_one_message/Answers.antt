use Rattle.wire.proofs.ClearLemmas.{plain_chain}
use Rattle.wire.proofs.LawLemmas.{one_message, one_chain}
use Rattle.wire.proofs.laws.octets_spell_one_message.Goals as goal

pub returns-clause-message : goal.returns-clause-message
returns-clause-message c = one_message

pub returns-clause-chain : goal.returns-clause-chain
returns-clause-chain c = one_chain

pub returns-clause-plain_chain : goal.returns-clause-plain_chain
returns-clause-plain_chain c = plain_chain
