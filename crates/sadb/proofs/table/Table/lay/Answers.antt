use Rattle.std.proofs.Common.{◌≡◌, length}
use Rattle.sadb.specs.Laying.{finished_at_behind}
use Rattle.sadb.proofs.TableLemmas.{sealed_in, seals_at}
use Rattle.sadb.proofs.table.Table.lay.Goals as goal

pub invariant_of-self : goal.invariant_of-self
invariant_of-self c =
    sealed_in (c.lay.new.out.items ≡ c.args.out.now.items) c.self.inside.places c.self.inside.pairs c.lay.new.self c.args.serial c.args.next c.args.payload.now c.args.out.now.items
    (λ number. finished_at_behind (length c.args.out.now.items) c.lay.new.self.pairs c.args.serial number c.lay.new.out.items) c.lay.result c.self.invariant c.lay.ensures.rest c.lay.ensures.sealed c.lay.ensures.refused

pub returns-clause-sealed : goal.returns-clause-sealed
returns-clause-sealed c =
    seals_at c.args.self.now c.self.inside.places c.self.inside.pairs c.lay.new.self c.args.serial c.args.next c.args.payload.now c.args.out.now.items
    (λ number. finished_at_behind (length c.args.out.now.items) c.lay.new.self.pairs c.args.serial number c.lay.new.out.items) c.lay.result c.self.view_is c.lay.ensures.rest c.lay.ensures.sealed
