use Rattle.gateway.proofs.LawLemmas.{dropped_outward, inward_keeps, judged_takes, unjudged_keeps}
use Rattle.gateway.proofs.laws.packets.a_dropped_packet_takes_one_number_at_most.Goals as goal

pub returns-clause-judged : goal.returns-clause-judged
returns-clause-judged g c =
    λ meaning octets reason old new s after. judged_takes c.a_packet_takes_one_number.ensures.refused_after_judging meaning octets reason old new s after

pub returns-clause-unjudged : goal.returns-clause-unjudged
returns-clause-unjudged g c =
    λ meaning octets reason old new s before. unjudged_keeps c.a_packet_takes_one_number.ensures.refused_before meaning octets reason old new s before

pub returns-clause-outward : goal.returns-clause-outward
returns-clause-outward g c = λ meaning packet reason old new s. dropped_outward meaning packet reason old new s

pub returns-clause-inward : goal.returns-clause-inward
returns-clause-inward g c = λ meaning packet said old new s. inward_keeps meaning packet said old new s
