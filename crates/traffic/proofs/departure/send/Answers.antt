use Rattle.std.proofs.Common.{sym, subst}
use Rattle.traffic.specs.Laying.{finished_outcome}
use Rattle.traffic.specs.Outcomes.{Outcome, outcome_of_departure}
use Rattle.traffic.specs.Sending.{Departs, Sends}
use Rattle.traffic.proofs.BehindLemmas.{became_alone}
use Rattle.traffic.proofs.SendingLemmas.{departs}
use Rattle.traffic.proofs.departure.send.Goals as goal

pub returns-clause-sent : goal.returns-clause-sent
returns-clause-sent c =
    let became : Departs c.args.table.now c.look_up-treatment.result c.in-Ok.flow c.args.packet.now (finished_outcome c.depart.new.table.pairs (outcome_of_departure c.departure_of.result)) c.depart.new.table =
    became_alone (λ (o : Outcome). Departs c.args.table.now c.look_up-treatment.result c.in-Ok.flow c.args.packet.now o c.depart.new.table) c.new-octets.result.items c.in_ok-laid.laid c.depart.new.table c.depart.new.out.items (outcome_of_departure c.departure_of.result)
    c.new-octets.ensures.items c.departure_of.ensures c.in_ok-laid.ensures.sent
    in
    subst (λ (o : Outcome). Sends c.args.table.now c.args.policy.now c.args.packet.now o c.depart.new.table) (sym c.finish.ensures)
    (departs c.args.table.now c.args.policy.now c.look_up-treatment.result c.in-Ok.flow c.args.packet.now (finished_outcome c.depart.new.table.pairs (outcome_of_departure c.departure_of.result)) c.depart.new.table c.in-Ok.ensures.flow c.look_up-treatment.ensures.decision became)
