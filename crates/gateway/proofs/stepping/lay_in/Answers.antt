use Rattle.std.proofs.Common.{◌≡◌, true, sym, subst}
use Rattle.std.specs.Ordering.{nat_cmp}
use Rattle.std.specs.FinSet as set
use Rattle.gateway.proofs.stepping.lay_in.Goals as goal

pub returns-clause-sound : goal.returns-clause-sound
returns-clause-sound c =
    c.soundness_asks_for_reservations.ensures c.args.ike.now c.args.table.now c.lay_packet_in.new.table
    (λ spi h. subst (λ (r : set.FinSet nat_cmp). set.contains r spi ≡ true) (sym c.lay_packet_in.ensures.reserved) h)
    c.requires.sound

pub returns-clause-reservations : goal.returns-clause-reservations
returns-clause-reservations c =
    c.no_spi_is_lost.ensures.kept c.args.ike.now.held c.args.table.now c.lay_packet_in.new.table
    (λ spi h. subst (λ (r : set.FinSet nat_cmp). set.contains r spi ≡ true) c.lay_packet_in.ensures.reserved h)
    c.requires.reservations
