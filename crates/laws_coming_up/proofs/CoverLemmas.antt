-- The terms of the Child SA cover the flows that the entries of both ends hold.
use Rattle.std.proofs.Common.{◌≡◌, ◌↔◌, ◌∷◌, ℕ, zero, suc, [], Some, refl, subst, sym}
use Rattle.std.specs.Prelude.{slice_get}
use Rattle.base.specs.declared.selector.Selector.{Selector}
use Rattle.policy.specs.Decisions.{local_side, remote_side, source_point, target_point, Covers, HoldsFlow}
use Rattle.policy.specs.Points.{HoldsAny, HoldsPoint}
use Rattle.policy.specs.declared.entry.Entry.{Entry}
use Rattle.policy.specs.declared.flow.Flow.{Flow}
use Rattle.policy.specs.declared.point.Point.{Point}
use Rattle.policy.specs.declared.policy.Direction.TheVariants.{Inward, Outward}
use Rattle.children.specs.Terms.{Terms}
use Rattle.laws_opening.specs.Opened.{Opening, Side}
use Rattle.laws_coming_up.specs.ComingUp.{AreAgreed}

-- ---- a list of one selector

one_held : (s : Selector) (p : Point) (place : ℕ) (x : Selector) → slice_get (s ∷ []) place ≡ Some x → HoldsPoint x p → HoldsPoint s p
one_held s p zero x there held = let same : s ≡ x = cc in subst (λ (y : Selector). HoldsPoint y p) (sym same) held
one_held s p (suc place) x there held = absurd cc

from_one : (s : Selector) (p : Point) → HoldsAny (s ∷ []) p → HoldsPoint s p
from_one s p any = one_held s p any.place any.selector any.there any.held

to_one : (s : Selector) (p : Point) → HoldsPoint s p → HoldsAny (s ∷ []) p
to_one s p held = record { place = 0; selector = s; there = refl; held = held }

-- ---- both ends

module _ (one other : Side) (o : Opening) (terms : Terms) (agreed : AreAgreed one other o terms) (f : Flow) where
  abbrev chosen : Entry
  chosen = agreed.narrowed.entry

  pub covered_there : Covers terms.ts_i terms.ts_r f ↔ (HoldsFlow Outward f o.entry × HoldsFlow Inward f chosen)
  covered_there = (
    λ is. (
        let source = (agreed.narrowed.points_i (source_point f)).0 is.0 in
        let target = (agreed.narrowed.points_r (target_point f)).0 is.1 in (
          (from_one (local_side o.entry) (source_point f) source.0, from_one (remote_side o.entry) (target_point f) target.0),
          (source.1, target.1),
        )
        ),
    λ is. (
      (agreed.narrowed.points_i (source_point f)).1 (to_one (local_side o.entry) (source_point f) is.0.0, is.1.0),
      (agreed.narrowed.points_r (target_point f)).1 (to_one (remote_side o.entry) (target_point f) is.0.1, is.1.1),
    ),
  )

  pub covered_back : Covers terms.ts_r terms.ts_i f ↔ (HoldsFlow Outward f chosen × HoldsFlow Inward f o.entry)
  covered_back = (
    λ is. (
        let source = (agreed.narrowed.points_r (source_point f)).0 is.0 in
        let target = (agreed.narrowed.points_i (target_point f)).0 is.1 in (
          (source.1, target.1),
          (from_one (remote_side o.entry) (source_point f) source.0, from_one (local_side o.entry) (target_point f) target.0),
        )
        ),
    λ is. (
      (agreed.narrowed.points_r (source_point f)).1 (to_one (remote_side o.entry) (source_point f) is.1.0, is.0.0),
      (agreed.narrowed.points_i (target_point f)).1 (to_one (local_side o.entry) (target_point f) is.1.1, is.0.1),
    ),
  )
