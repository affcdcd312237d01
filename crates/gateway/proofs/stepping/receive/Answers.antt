use Rattle.std.proofs.Common.{◌≡◌, true, sym, subst}
use Rattle.std.specs.Ordering.{nat_cmp}
use Rattle.std.specs.FinSet as set
use Rattle.traffic.specs.Outcomes.{outcome_of_arrival}
use Rattle.gateway.proofs.PacketLemmas.{receiving_keeps}
use Rattle.gateway.proofs.stepping.receive.Goals as goal

pub returns-clause-sound : goal.returns-clause-sound
returns-clause-sound c =
    let kept = receiving_keeps c.args.table.now c.args.packet.now (outcome_of_arrival c.receive_ahead.result) c.receive_ahead.new.table c.receive_ahead.ensures in
    c.soundness_asks_for_reservations.ensures c.args.ike.now c.args.table.now c.receive_ahead.new.table
    (λ spi h. subst (λ (r : set.FinSet nat_cmp). set.contains r spi ≡ true) (sym kept) h)
    c.requires.sound

pub returns-clause-reservations : goal.returns-clause-reservations
returns-clause-reservations c =
    let kept = receiving_keeps c.args.table.now c.args.packet.now (outcome_of_arrival c.receive_ahead.result) c.receive_ahead.new.table c.receive_ahead.ensures in
    c.no_spi_is_lost.ensures.kept c.args.ike.now.held c.args.table.now c.receive_ahead.new.table
    (λ spi h. subst (λ (r : set.FinSet nat_cmp). set.contains r spi ≡ true) kept h)
    c.requires.reservations

pub returns-clause-right : goal.returns-clause-right
returns-clause-right c =
    c.answers_stay_right.ensures.stay c.args.policy.now c.args.table.now.pairs c.receive_ahead.new.table.pairs c.args.flows.now
    (c.no_pair_comes.ensures.received c.args.table.now c.receive_ahead.new.table c.args.packet.now (outcome_of_arrival c.receive_ahead.result) c.receive_ahead.ensures) c.requires.right
