use Rattle.std.proofs.Common.{ℕ, List, All, Contains, sym, subst}
use Rattle.wire.specs.declared.proposal.Transform.{Transform}
use Rattle.suite.proofs.choice.has_transforms.Goals as goal

pub returns-then-has_no_other : goal.returns-then-has_no_other
returns-then-has_no_other c =
    let P : List ℕ → Type 0 = λ ks. All (λ (t : Transform). Contains ks t.kind) c.args.transforms.now in
    (λ yes. (subst P c.kinds.ensures (c.has_no_other.ensures.0 c.if-has_no_other.true), c.has_each.ensures.0 yes), λ both. c.has_each.ensures.1 both.1)

pub returns-else-has_no_other : goal.returns-else-has_no_other
returns-else-has_no_other c =
    let P : List ℕ → Type 0 = λ ks. All (λ (t : Transform). Contains ks t.kind) c.args.transforms.now in
    (λ yes. absurd (let no = c.if-has_no_other.false in cc), λ both. c.has_no_other.ensures.1 (subst P (sym c.kinds.ensures) both.0))
