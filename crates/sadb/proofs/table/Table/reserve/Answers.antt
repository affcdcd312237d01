use Rattle.std.proofs.Common.{sym, subst}
use Rattle.sadb.specs.Database.{IsReserved, Reserves}
use Rattle.sadb.proofs.TableLemmas.{is_reserved, table_of, reserved_in}
use Rattle.sadb.proofs.table.Table.reserve.Goals as goal

pub invariant_of-self : goal.invariant_of-self
invariant_of-self c =
    let ok = c.in_ok-prepare.ensures.ok in
    (reserved_in c.args.self.now c.prepare.new.self c.self.inside.places c.reserve.new.self c.self.inside.pairs c.reserve.result c.self.view_is c.in_ok-prepare.ensures.content ok.2 ok.3 ok.1 c.self.invariant c.reserve.ensures.next c.reserve.ensures.new_spi c.reserve.ensures.content c.reserve.ensures.room).sound

pub returns-clause-ok : goal.returns-clause-ok
returns-clause-ok c =
    let ok = c.in_ok-prepare.ensures.ok in
    let reserves = (reserved_in c.args.self.now c.prepare.new.self c.self.inside.places c.reserve.new.self c.self.inside.pairs c.reserve.result c.self.view_is c.in_ok-prepare.ensures.content ok.2 ok.3 ok.1 c.self.invariant c.reserve.ensures.next c.reserve.ensures.new_spi c.reserve.ensures.content c.reserve.ensures.room).reserves in
    let spi = c.new.ensures in
    (subst (λ q. Reserves c.args.self.now q (table_of c.reserve.new.self c.self.inside.pairs)) (sym spi) reserves, ok.2, ok.3)

pub returns-clause-reserved : goal.returns-clause-reserved
returns-clause-reserved c =
    let ok = c.in_ok-prepare.ensures.ok in
    let reserves = (reserved_in c.args.self.now c.prepare.new.self c.self.inside.places c.reserve.new.self c.self.inside.pairs c.reserve.result c.self.view_is c.in_ok-prepare.ensures.content ok.2 ok.3 ok.1 c.self.invariant c.reserve.ensures.next c.reserve.ensures.new_spi c.reserve.ensures.content c.reserve.ensures.room).reserves in
    let spi = c.new.ensures in
    subst (λ q. IsReserved (table_of c.reserve.new.self c.self.inside.pairs) q) (sym spi) (is_reserved c.args.self.now (table_of c.reserve.new.self c.self.inside.pairs) c.reserve.result reserves)
