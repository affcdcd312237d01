use Rattle.std.proofs.Common.{Some, refl, sym, subst}
use Rattle.sukperin.specs.Outward.{SendsIf}
use Rattle.sukperin.specs.declared.end.End.{End}
use Rattle.sukperin.specs.declared.end.End.TheVariants.{Gateway}
use Rattle.sukperin.proofs.OutwardLemmas.{sends_nothing}
use Rattle.sukperin.proofs.inputs.outward.Goals as goal

pub returns-in_default : goal.returns-in_default
returns-in_default c = sends_nothing c.args.packet.now c.args.room.now c.args.end.now c.code.result c.args.out.now c.in_default.not-Gateway c.code.ensures.value

pub returns : goal.returns
returns c =
    subst (λ (e : End). SendsIf c.args.packet.now c.args.room.now (Some e) c.send.result (Some (Gateway c.send.new.hosted)) c.args.out.now c.send.new.out c.send.new.room) (sym c.in-Gateway.is)
    (c.send.new.hosted, refl, c.send.ensures)
