use Rattle.sadb.proofs.LookupLemmas.{one_inbound, one_outbound, one_after, one_refusal}
use Rattle.sadb.proofs.laws.answers_are_determined.Goals as goal

pub returns-clause-inbound : goal.returns-clause-inbound
returns-clause-inbound c = one_inbound

pub returns-clause-outbound : goal.returns-clause-outbound
returns-clause-outbound c = one_outbound

pub returns-clause-after : goal.returns-clause-after
returns-clause-after c = one_after

pub returns-clause-refusal : goal.returns-clause-refusal
returns-clause-refusal c = one_refusal
