use Rattle.policy.proofs.LawLemmas.{sound_or_fault, one_fault, one_decision}
use Rattle.policy.proofs.laws.policies_are_determined.Goals as goal

pub returns-clause-sound : goal.returns-clause-sound
returns-clause-sound c = sound_or_fault

pub returns-clause-fault : goal.returns-clause-fault
returns-clause-fault c = one_fault

pub returns-clause-decision : goal.returns-clause-decision
returns-clause-decision c = one_decision
