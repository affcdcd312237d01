use Rattle.std.proofs.Common.{◌≡◌, ◌≤◌, ap, arith}
use Rattle.sadb.proofs.AssociationLemmas.{one_more, all_removed}
use Rattle.sadb.proofs.table.Table.remove_all_of.Goals as goal

pub loop-serial-preserved : goal.loop-serial-preserved
loop-serial-preserved c = one_more c.args.self.now c.loop-serial.self c.remove_if_of.new.self c.args.ike c.loop-serial.serial c.loop-serial.invariant c.remove_if_of.ensures

pub returns : goal.returns
returns c =
    let next : c.self.inside.pairs.next ≡ c.args.self.now.next = ap (λ d. d.next) c.self.view_is in
    let whole : c.args.self.now.next ≤ c.loop-serial.serial = omega (arith, c.next-serial-end.ensures, next) in
    all_removed c.args.self.now c.loop-serial.self c.args.ike c.loop-serial.serial c.invariants_hold.ensures whole c.loop-serial.invariant
