use Rattle.std.proofs.Common.{length, rules, arith}
use Rattle.wire.specs.Reading.{delete_of}
use Rattle.wire.specs.declared.payload.Payload.TheVariants.{Delete}
use Rattle.wire.proofs.Numbering.{four_by_four}
use Rattle.wire.proofs.checking.check_delete.Goals as goal

pub returns-then-body-from : goal.returns-then-body-from
unfolding delete_of
returns-then-body-from c =
    let spis = four_by_four c.in_ok-count.count (length c.u16.new.self.rest.now) c.u16.new.self.rest.now (grind arith) (omega arith) in
    (Delete c.in_ok-protocol.protocol spis.0, search (rules, spis.1))
