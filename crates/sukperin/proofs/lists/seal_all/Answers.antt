use Rattle.std.proofs.Common.{Some, refl, sym, subst}
use Rattle.sukperin.specs.Lists.{SealsAll}
use Rattle.sukperin.specs.declared.end.End.{End}
use Rattle.sukperin.specs.declared.end.End.TheVariants.{Gateway}
use Rattle.sukperin.proofs.SealLemmas.{seals_nothing}
use Rattle.sukperin.proofs.lists.seal_all.Goals as goal

pub returns-in_default : goal.returns-in_default
returns-in_default c = seals_nothing c.args.octets.now c.args.places.now c.args.end.now c.code.result c.args.outs.now c.args.room.now c.in_default.not-Gateway c.code.ensures.value

pub returns : goal.returns
returns c =
    subst (λ (e : End). SealsAll c.args.octets.now c.args.places.now (Some e) c.seal_by.result (Some (Gateway c.seal_by.new.hosted)) c.args.outs.now c.seal_by.new.outs c.args.room.now c.seal_by.new.room) (sym c.in-Gateway.is)
    (c.seal_by.new.hosted, refl, c.seal_by.ensures)
