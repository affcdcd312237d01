use Rattle.std.proofs.Common.{◌≡◌, Some, refl, sym, subst}
use Rattle.gateway.specs.Inputs.{input_view}
use Rattle.sukperin.specs.Inputs.{Takes}
use Rattle.sukperin.specs.declared.end.End.{End}
use Rattle.sukperin.specs.declared.end.End.TheVariants.{Gateway}
use Rattle.sukperin.proofs.inputs.give_end.Goals as goal

-- src/inputs.rt:249:1
pub returns : goal.returns
returns c =
    subst (λ (e : End). Takes (input_view c.args.input.now) (Some e) 0 (Some (Gateway c.take.new.self)) c.args.out.now c.take.new.out) (sym c.in-Gateway.is)
    (c.take.new.self, refl, refl, c.take.ensures)
