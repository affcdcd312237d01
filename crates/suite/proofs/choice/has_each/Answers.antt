use Rattle.std.proofs.Common.{ℕ, List, All, Any, not, refl, sym, ap, ◌∙◌, subst, get_or, Bor}
use Rattle.std.proofs.lemmas.List.{take_all}
use Rattle.std.proofs.lemmas.List.Elements.{All-more}
use Rattle.wire.specs.declared.proposal.Transform.{Transform}
use Rattle.suite.specs.Choice.{IsAcceptableTransform, IsFirstAcceptable}
use Rattle.suite.proofs.ChoiceLemmas.{first_is_one, said_of_none, said_of_some}
use Rattle.suite.proofs.choice.has_each.Goals as goal

pub returns-then-is_none : goal.returns-then-is_none
returns-then-is_none c = (
  λ no. absurd (cc),
  λ all.
      let w = c.args.wanted.now in
      let ts = c.args.transforms.now in
      let kind = get_or c.kinds-kind-items.result.now c.loop-kind.kind-index 0 in
      let none = said_of_none c.first_acceptable.result (Any (IsAcceptableTransform w kind) ts → ⊥) (λ (t : Bor Transform). IsFirstAcceptable w kind ts t.now)
      (c.is_none.ensures ∙ ap not c.if-is_none.true) c.first_acceptable.ensures in
      let P : List ℕ → Type 0 = λ ks. All (λ k. Any (IsAcceptableTransform w k) ts) ks in
      absurd (none (subst P (sym c.kinds-kind-items.ensures) all c.loop-kind.kind-index 0 c.loop-kind-test.true)),
)

pub loop-kind-preserved : goal.loop-kind-preserved
loop-kind-preserved c =
    let w = c.args.wanted.now in
    let ts = c.args.transforms.now in
    let kind = get_or c.kinds-kind-items.result.now c.loop-kind.kind-index 0 in
    let found = said_of_some c.first_acceptable.result (Any (IsAcceptableTransform w kind) ts → ⊥) (λ (t : Bor Transform). IsFirstAcceptable w kind ts t.now)
    (c.is_none.ensures ∙ ap not c.if-is_none.false) c.first_acceptable.ensures in
    All-more (λ k. Any (IsAcceptableTransform w k) ts) c.kinds-kind-items.result.now c.loop-kind.kind-index 0 c.loop-kind-test.true c.loop-kind.invariant
    (first_is_one w kind ts found.0.now found.1)

pub returns : goal.returns
returns c = (
  λ _.
      let w = c.args.wanted.now in
      let ts = c.args.transforms.now in
      let ks = c.kinds-kind-items.result.now in
      let P : List ℕ → Type 0 = λ xs. All (λ k. Any (IsAcceptableTransform w k) ts) xs in
      subst P (take_all c.loop-kind.kind-index ks c.loop-kind-test.false ∙ c.kinds-kind-items.ensures) c.loop-kind.invariant,
  λ _. refl,
)
