use Rattle.std.proofs.Common.{Some, refl, sym, subst}
use Rattle.sukperin.specs.Lists.{OpensAll}
use Rattle.sukperin.specs.declared.end.End.{End}
use Rattle.sukperin.specs.declared.end.End.TheVariants.{Gateway}
use Rattle.sukperin.proofs.ListLemmas.{opens_nothing}
use Rattle.sukperin.proofs.lists.open_all.Goals as goal

pub returns-in_default : goal.returns-in_default
returns-in_default c = opens_nothing c.args.octets.now c.args.places.now c.args.end.now c.code.result c.args.outs.now c.in_default.not-Gateway c.code.ensures.value

pub returns : goal.returns
returns c =
    subst (λ (e : End). OpensAll c.args.octets.now c.args.places.now (Some e) c.open_by.result (Some (Gateway c.open_by.new.hosted)) c.args.outs.now c.open_by.new.outs) (sym c.in-Gateway.is)
    (c.open_by.new.hosted, refl, c.open_by.ensures)
