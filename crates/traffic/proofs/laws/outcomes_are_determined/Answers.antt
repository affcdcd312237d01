use Rattle.traffic.proofs.ReceptionLemmas.{one_reception}
use Rattle.traffic.proofs.SendingLemmas.{one_admission, one_sending}
use Rattle.traffic.proofs.laws.outcomes_are_determined.Goals as goal

pub returns-clause-received : goal.returns-clause-received
returns-clause-received c = λ old new other packet one another first second.
    one_reception (record { flow = c.flows_are_determined.ensures.flow; refusal = c.flows_are_determined.ensures.refusal; apart = c.flows_are_determined.ensures.apart })
    (record {
      number = c.a_packet_has_one_number.ensures.number;
      judged = c.a_packet_has_one_number.ensures.judged;
      contents = c.a_packet_carries_one_payload.ensures;
    })
    old packet one another new other first second

pub returns-clause-sent : goal.returns-clause-sent
returns-clause-sent c = λ old new other policy packet one another first second.
    one_sending (record {
      flows = record { flow = c.flows_are_determined.ensures.flow; refusal = c.flows_are_determined.ensures.refusal; apart = c.flows_are_determined.ensures.apart };
      decision = c.policies_are_determined.ensures.decision;
    })
    c.answers_are_determined.ensures.outbound old policy packet one another new other first second

pub returns-clause-admitted : goal.returns-clause-admitted
returns-clause-admitted c = λ policy packet one another first second.
    one_admission (record {
      flows = record { flow = c.flows_are_determined.ensures.flow; refusal = c.flows_are_determined.ensures.refusal; apart = c.flows_are_determined.ensures.apart };
      decision = c.policies_are_determined.ensures.decision;
    })
    policy packet one another first second
