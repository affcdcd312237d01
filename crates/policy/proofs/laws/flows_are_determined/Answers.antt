use Rattle.policy.proofs.LawLemmas.{one_family, one_flow, one_refusal, flow_or_refusal}
use Rattle.policy.proofs.laws.flows_are_determined.Goals as goal

pub returns-clause-flow : goal.returns-clause-flow
returns-clause-flow c = one_flow

pub returns-clause-one_family : goal.returns-clause-one_family
returns-clause-one_family c = one_family

pub returns-clause-refusal : goal.returns-clause-refusal
returns-clause-refusal c = one_refusal

pub returns-clause-apart : goal.returns-clause-apart
returns-clause-apart c = flow_or_refusal
