use Rattle.traffic.proofs.SendingLemmas.{clear_inward, clear_outward, protected_outward}
use Rattle.traffic.proofs.laws.only_the_bypassed_goes_in_the_clear.Goals as goal

pub returns-clause-outward : goal.returns-clause-outward
returns-clause-outward c =
    clear_outward (record {
      flows = record { flow = c.flows_are_determined.ensures.flow; refusal = c.flows_are_determined.ensures.refusal; apart = c.flows_are_determined.ensures.apart };
      decision = c.policies_are_determined.ensures.decision;
    })

pub returns-clause-protected : goal.returns-clause-protected
returns-clause-protected c =
    protected_outward (record {
      flows = record { flow = c.flows_are_determined.ensures.flow; refusal = c.flows_are_determined.ensures.refusal; apart = c.flows_are_determined.ensures.apart };
      decision = c.policies_are_determined.ensures.decision;
    })

pub returns-clause-inward : goal.returns-clause-inward
returns-clause-inward c =
    clear_inward (record {
      flows = record { flow = c.flows_are_determined.ensures.flow; refusal = c.flows_are_determined.ensures.refusal; apart = c.flows_are_determined.ensures.apart };
      decision = c.policies_are_determined.ensures.decision;
    })
