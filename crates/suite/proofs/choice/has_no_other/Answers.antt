use Rattle.std.proofs.Common.{Contains, refl, sym, subst, take}
use Rattle.std.proofs.lemmas.List.{take_all}
use Rattle.std.proofs.lemmas.List.Elements.{All-more, All-same}
use Rattle.wire.specs.declared.proposal.Transform.{Transform}
use Rattle.suite.proofs.choice.has_no_other.Goals as goal

pub returns-then-not-is_among : goal.returns-then-not-is_among
returns-then-not-is_among c = (
  λ no. absurd (cc),
  λ all.
      let P : Transform → Type 0 = λ t. Contains c.args.kinds.now t.kind in
      let has = subst P (sym c.transform-item.is) (all c.loop-transform.transform-index c.transform-item.result c.loop-transform-test.true) in
      let yes = c.is_among.ensures.1 has in
      let no = c.if-not-is_among.true in
      cc,
)

pub loop-transform-preserved : goal.loop-transform-preserved
loop-transform-preserved c =
    let P : Transform → Type 0 = λ t. Contains c.args.kinds.now t.kind in
    let here = subst P c.transform-item.is (c.is_among.ensures.0 c.if-not-is_among.false) in
    All-more P c.args.transforms.now c.loop-transform.transform-index c.transform-item.result c.loop-transform-test.true c.loop-transform.invariant here

pub returns : goal.returns
returns c = (
  λ _. All-same (λ (t : Transform). Contains c.args.kinds.now t.kind) c.args.transforms.now (take c.loop-transform.transform-index c.args.transforms.now)
      (sym (take_all c.loop-transform.transform-index c.args.transforms.now c.loop-transform-test.false)) c.loop-transform.invariant,
  λ _. refl,
)
