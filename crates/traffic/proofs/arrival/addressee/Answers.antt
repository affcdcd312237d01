use Rattle.std.proofs.Common.{rules, subst, sym}
use Rattle.sadb.specs.Database.{HasInbound}
use Rattle.traffic.proofs.ReceivingLemmas.{asked_for}
use Rattle.traffic.proofs.arrival.addressee.Goals as goal

pub returns-in-Some-clause-may_open : goal.returns-in-Some-clause-may_open
returns-in-Some-clause-may_open c =
    asked_for c.args.table.now.pairs c.args.packet.now c.in-Some.pair.now (search rules) (λ i. search rules) (search rules)

pub returns-in-None-clause-none : goal.returns-in-None-clause-none
returns-in-None-clause-none c = (
  search rules,
  λ serial has. c.in-None.ensures.none serial (subst (λ spi. HasInbound c.args.table.now.pairs spi serial) (sym c.read_u32.ensures) has),
)
