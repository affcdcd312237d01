use Rattle.std.proofs.Common.{IfNone, sym, subst, ℕ}
use Rattle.sadb.specs.Database.{HasInbound}
use Rattle.sadb.proofs.TableLemmas.{none_inbound, found_inbound}
use Rattle.sadb.proofs.table.Table.inbound.Goals as goal

pub returns-in_err-serial-clause-none : goal.returns-in_err-serial-clause-none
returns-in_err-serial-clause-none c =
    subst (λ r. IfNone r ((serial : ℕ) → ¬ HasInbound c.args.self.now.pairs c.args.spi serial)) (sym c.from_residual.ensures)
    (none_inbound c.args.self.now c.self.inside.places c.self.inside.pairs c.args.spi c.self.view_is c.self.invariant (sym c.in_err-serial.ensures))

pub returns-clause-some : goal.returns-clause-some
returns-clause-some c =
    (found_inbound c.args.self.now c.self.inside.places c.self.inside.pairs c.args.spi c.in_ok-serial.field-0 c.get.result c.self.view_is c.self.invariant (sym c.in_ok-serial.ensures) c.get.ensures.value c.get.ensures.own_serial).0

pub returns-clause-none : goal.returns-clause-none
returns-clause-none c =
    (found_inbound c.args.self.now c.self.inside.places c.self.inside.pairs c.args.spi c.in_ok-serial.field-0 c.get.result c.self.view_is c.self.invariant (sym c.in_ok-serial.ensures) c.get.ensures.value c.get.ensures.own_serial).1
