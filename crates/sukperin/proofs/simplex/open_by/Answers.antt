use Rattle.std.proofs.Common.{◌≡◌, Some, refl, sym, subst}
use Rattle.sukperin.specs.Associations.{IsOpeningRefusal}
use Rattle.sukperin.specs.declared.end.End.{End}
use Rattle.sukperin.specs.declared.end.End.TheVariants.{Receiver}
use Rattle.sukperin.proofs.simplex.open_by.Goals as goal

-- src/simplex.rt:191:1
pub returns-in-Err-clause-refused : goal.returns-in-Err-clause-refused
returns-in-Err-clause-refused c some =
    let refused = c.in-Err.ensures.refused in (
      subst (λ (e : End). IsOpeningRefusal (Some e) c.args.packet.now c.code-in-Err.result (Some (Receiver c.open.new.receiver))) (sym c.in-Receiver.is)
          (c.in-Err.refusal, c.open.new.receiver, c.code-in-Err.ensures.value, refl, refused.0),
      refused.1,
    )
