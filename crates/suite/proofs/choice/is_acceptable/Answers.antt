use Rattle.std.proofs.Common.{List, All, Any, Contains, sym, subst}
use Rattle.wire.specs.declared.proposal.Transform.{Transform}
use Rattle.suite.specs.Choice.{IsAcceptableTransform, kinds}
use Rattle.suite.proofs.choice.is_acceptable.Goals as goal

pub returns-then-has_protocol : goal.returns-then-has_protocol
returns-then-has_protocol c =
    let w = c.args.wanted.now in
    let P : List Transform → Type 0 = λ ts. All (λ (t : Transform). Contains (kinds w) t.kind) ts × All (λ kind. Any (IsAcceptableTransform w kind) ts) (kinds w) in (
      λ yes.
          let form = c.has_protocol.ensures.0 c.if-has_protocol.true in
          let both = subst P c.as_slice.ensures (c.has_transforms.ensures.0 yes) in
          record { protocol = form.0; spi = form.1; no_other = both.0; each = both.1 },
      λ is. c.has_transforms.ensures.1 (subst P (sym c.as_slice.ensures) (is.no_other, is.each)),
    )
