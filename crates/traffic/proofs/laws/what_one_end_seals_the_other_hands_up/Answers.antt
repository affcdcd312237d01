use Rattle.traffic.proofs.MirrorLemmas.{mirrored}
use Rattle.traffic.proofs.laws.what_one_end_seals_the_other_hands_up.Goals as goal

pub returns : goal.returns
returns c = λ near near_new far far_new policy packet octets child number pair mirror outcome there sends mirrors sound due receives.
    mirrored (record {
      flows = record { flow = c.flows_are_determined.ensures.flow; refusal = c.flows_are_determined.ensures.refusal; apart = c.flows_are_determined.ensures.apart };
      packets = record {
        number = c.a_packet_has_one_number.ensures.number;
        judged = c.a_packet_has_one_number.ensures.judged;
        contents = c.a_packet_carries_one_payload.ensures;
      };
      openable = c.sealed_packets_open.ensures;
    })
    near near_new policy packet child number octets pair mirror far far_new outcome there sends mirrors sound due receives
