use Rattle.std.proofs.Common.{inl}
use Rattle.traffic.specs.Laying.{finished_outcome}
use Rattle.traffic.specs.Outcomes.{Outcome, outcome_of_departure}
use Rattle.gateway.proofs.LayingLemmas.{said_finished, senders_same}
use Rattle.gateway.proofs.PacketLemmas.{sending_keeps}
use Rattle.gateway.proofs.stepping.lay_packet.Goals as goal

pub returns-in-Ok-clause-sent : goal.returns-in-Ok-clause-sent
returns-in-Ok-clause-sent c =
    let pairs = c.lay.new.table.pairs in
    let outcome : Outcome = finished_outcome pairs (outcome_of_departure c.in-Ok.departure) in
    inl (record {
      outcome = outcome;
      sends = c.in-Ok.ensures.sent;
      output = said_finished pairs c.of_departure.result (outcome_of_departure c.in-Ok.departure) c.of_departure.ensures;
    })

pub returns-in-Ok-clause-reserved : goal.returns-in-Ok-clause-reserved
returns-in-Ok-clause-reserved c =
    sending_keeps c.args.table.now c.args.policy.now c.args.packet.now (finished_outcome c.lay.new.table.pairs (outcome_of_departure c.in-Ok.departure)) c.lay.new.table c.in-Ok.ensures.sent

pub returns-in-Ok-clause-senders : goal.returns-in-Ok-clause-senders
returns-in-Ok-clause-senders c =
    c.senders_stay.ensures.sent c.args.table.now c.lay.new.table c.args.policy.now c.args.packet.now (finished_outcome c.lay.new.table.pairs (outcome_of_departure c.in-Ok.departure)) c.in-Ok.ensures.sent

pub returns-in-Err-clause-senders : goal.returns-in-Err-clause-senders
returns-in-Err-clause-senders c = senders_same c.args.table.now c.lay.new.table c.in-Err.ensures.memory.1
