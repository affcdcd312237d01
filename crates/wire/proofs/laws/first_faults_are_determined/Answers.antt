use Rattle.wire.proofs.LawLemmas.{one_fault, one_chain_fault, one_encoding_fault}
use Rattle.wire.proofs.laws.first_faults_are_determined.Goals as goal

pub returns-clause-message : goal.returns-clause-message
returns-clause-message c = one_fault

pub returns-clause-chain : goal.returns-clause-chain
returns-clause-chain c = one_chain_fault

pub returns-clause-encoding : goal.returns-clause-encoding
returns-clause-encoding c = one_encoding_fault
