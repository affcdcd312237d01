use Rattle.std.proofs.Common.{◌≡◌, true, sym, subst}
use Rattle.std.specs.Ordering.{nat_cmp}
use Rattle.std.specs.FinSet as set
use Rattle.traffic.specs.Outcomes.{outcome_of_arrival}
use Rattle.gateway.proofs.PacketLemmas.{receiving_keeps}
use Rattle.gateway.proofs.stepping.take.Goals as goal

pub returns-in-Esp-clause-sound : goal.returns-in-Esp-clause-sound
returns-in-Esp-clause-sound g c =
    let kept = receiving_keeps c.args.table.now c.in-Esp.octets.now (outcome_of_arrival c.receive_ahead.result) c.receive_ahead.new.table c.receive_ahead.ensures in
    c.soundness_asks_for_reservations.ensures c.args.ike.now c.args.table.now c.receive_ahead.new.table
    (λ spi h. subst (λ (r : set.FinSet nat_cmp). set.contains r spi ≡ true) (sym kept) h)
    c.requires.sound

pub returns-in-Outward-clause-sound : goal.returns-in-Outward-clause-sound
returns-in-Outward-clause-sound g c =
    c.soundness_asks_for_reservations.ensures c.args.ike.now c.args.table.now c.send_packet.new.table
    (λ spi h. subst (λ (r : set.FinSet nat_cmp). set.contains r spi ≡ true) (sym c.send_packet.ensures.reserved) h)
    c.requires.sound

pub returns-in-Esp-clause-reservations : goal.returns-in-Esp-clause-reservations
returns-in-Esp-clause-reservations g c =
    let kept = receiving_keeps c.args.table.now c.in-Esp.octets.now (outcome_of_arrival c.receive_ahead.result) c.receive_ahead.new.table c.receive_ahead.ensures in
    c.no_spi_is_lost.ensures.kept c.args.ike.now.held c.args.table.now c.receive_ahead.new.table
    (λ spi h. subst (λ (r : set.FinSet nat_cmp). set.contains r spi ≡ true) kept h)
    c.requires.reservations

pub returns-in-Outward-clause-reservations : goal.returns-in-Outward-clause-reservations
returns-in-Outward-clause-reservations g c =
    c.no_spi_is_lost.ensures.kept c.args.ike.now.held c.args.table.now c.send_packet.new.table
    (λ spi h. subst (λ (r : set.FinSet nat_cmp). set.contains r spi ≡ true) c.send_packet.ensures.reserved h)
    c.requires.reservations

pub returns-in-Esp-clause-right : goal.returns-in-Esp-clause-right
returns-in-Esp-clause-right g c =
    c.answers_stay_right.ensures.stay c.args.policy.now c.args.table.now.pairs c.receive_ahead.new.table.pairs c.args.flows.now
    (c.no_pair_comes.ensures.received c.args.table.now c.receive_ahead.new.table c.in-Esp.octets.now (outcome_of_arrival c.receive_ahead.result) c.receive_ahead.ensures) c.requires.right
