use Rattle.sadb.proofs.TableLemmas.{all_sound}
use Rattle.sadb.proofs.table.Table.invariants_hold.Goals as goal

pub returns : goal.returns
returns c =
    let a = c.invariants_hold.ensures in
    let b = c.invariants_hold-2.ensures in
    all_sound c.args.self.now c.self.inside.places c.self.inside.pairs c.self.view_is c.self.invariant b.first a.start a.reserved a.held b.serial b.windows b.given
