use Rattle.wire.proofs.Promises.{message_or_fault, chain_or_fault, chain_not_both}
use Rattle.wire.proofs.laws.what_has_no_fault_is_spelled.Goals as goal

pub returns-clause-message : goal.returns-clause-message
returns-clause-message c = message_or_fault

pub returns-clause-chain : goal.returns-clause-chain
returns-clause-chain c = chain_or_fault

pub returns-clause-spelled_chain : goal.returns-clause-spelled_chain
returns-clause-spelled_chain c = chain_not_both
