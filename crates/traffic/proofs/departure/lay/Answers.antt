use Rattle.traffic.specs.Outcomes.{Outcome, outcome_of_departure}
use Rattle.traffic.specs.Sending.{Sends}
use Rattle.traffic.proofs.BehindLemmas.{became_alone}
use Rattle.traffic.proofs.departure.lay.Goals as goal

pub returns-clause-sent : goal.returns-clause-sent
returns-clause-sent c =
    became_alone (λ (o : Outcome). Sends c.args.table.now c.args.policy.now c.args.packet.now o c.lay_behind.new.table) c.new-octets.result.items c.in_ok-laid.laid c.lay_behind.new.table c.lay_behind.new.out.items (outcome_of_departure c.departure_of.result)
    c.new-octets.ensures.items c.departure_of.ensures c.in_ok-laid.ensures.sent
