use Rattle.std.proofs.lemmas.Bool.{both_ways}
use Rattle.deletions.proofs.LeftLemmas.{none_at_first, none_below, none_left, none_yet}
use Rattle.deletions.proofs.naming.sender_left.Goals as goal

pub loop-serial-init : goal.loop-serial-init
loop-serial-init c = none_at_first c.args.table.now.pairs c.args.gone.now c.args.ike c.args.spi c.args.table.now.next c.invariants_hold.ensures.serial_given

pub returns-then-sends_still-clause-some : goal.returns-then-sends_still-clause-some
returns-then-sends_still-clause-some c = record {
  sends = c.sends_still.ensures.0 c.if-sends_still.true;
  least = none_below c.args.table.now.pairs c.args.gone.now c.args.ike c.args.spi c.loop-serial.passed c.in-Some.serial c.loop-serial.invariant c.in-Some.ensures.some;
}

pub loop-serial-preserved : goal.loop-serial-preserved
loop-serial-preserved c =
    none_yet c.args.table.now.pairs c.args.gone.now c.args.ike c.args.spi c.loop-serial.passed c.in-Some.serial c.loop-serial.invariant c.in-Some.ensures.some
    (λ s. both_ways _ c.if-sends_still.false (c.sends_still.ensures.1 s))

pub returns-clause-none : goal.returns-clause-none
returns-clause-none c = none_left c.args.table.now.pairs c.args.gone.now c.args.ike c.args.spi c.loop-serial.passed c.loop-serial.invariant c.in_default.ensures.none
