use Rattle.sadb.proofs.TableLemmas.{opened_in, opened_unchanged, opens_at, refuses_at}
use Rattle.sadb.proofs.table.Table.open_ahead.Goals as goal

pub invariant_of-self : goal.invariant_of-self
invariant_of-self c =
    opened_in c.self.inside.places c.self.inside.pairs c.open.new.self c.args.serial c.args.packet.now c.open.result c.self.invariant c.open.ensures.rest c.open.ensures.up c.open.ensures.refused

pub returns-clause-unchanged : goal.returns-clause-unchanged
returns-clause-unchanged c =
    opened_unchanged c.args.self.now c.self.inside.places c.self.inside.pairs c.open.new.self c.args.serial c.args.packet.now c.open.result c.self.view_is c.open.ensures.rest c.open.ensures.refused

pub returns-clause-up : goal.returns-clause-up
returns-clause-up c =
    opens_at c.args.self.now c.self.inside.places c.self.inside.pairs c.open.new.self c.args.serial c.args.packet.now c.open.result c.self.view_is c.open.ensures.rest c.open.ensures.up

pub returns-clause-refused : goal.returns-clause-refused
returns-clause-refused c =
    refuses_at c.args.self.now c.self.inside.places c.self.inside.pairs c.open.new.self c.args.serial c.args.packet.now c.open.result c.self.view_is c.open.ensures.rest c.open.ensures.refused
