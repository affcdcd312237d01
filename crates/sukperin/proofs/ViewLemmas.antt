-- IKE SAs that are told one after the other.
use Rattle.std.proofs.Common.{◌≡◌, ◌<◌, ◌+◌, ℕ, Bool, true, false, List, [], ◌∷◌, ◌++◌, length, get_or, take, drop, set, refl, sym, ap, ◌∙◌, subst, inl, inr, arith}
use Rattle.std.specs.Bool.{MatchBool}
use Rattle.std.specs.Int.{from_bool}
use Rattle.std.specs.List.{AllZip}
use Rattle.std.proofs.lemmas.List.{take_all, take_more, take_more_set, take-append-drop}
use Rattle.std.proofs.lemmas.Slice.Zip.{all_zipped_more}
use Rattle.association.specs.declared.phase.Association.{Association}
use Rattle.sukperin.specs.Views.{FillsRoom, IsFlag, IsToldAs}
use Rattle.sukperin.specs.declared.views.SukAssociation.{SukAssociation}

pub flag_of : (b : Bool) (P : Type 0) → MatchBool b P (¬ P) → IsFlag (from_bool b) P
flag_of true P h = inl (refl, h)
flag_of false P h = inr (refl, h)

-- one more
pub told_more : (held : List Association) (room : List SukAssociation) (k : ℕ) (a : Association) (x : SukAssociation) → k < length held → k < length room → a ≡ get_or held k a → AllZip IsToldAs (take k held) (take k room) → IsToldAs a x → AllZip IsToldAs (take (k + 1) held) (take (k + 1) (set room k x))
told_more held room k a x within place is all told =
    let one : take (k + 1) held ≡ take k held ++ a ∷ [] =
    take_more held k a within ∙ ap (λ (b : Association). take k held ++ b ∷ []) (sym is)
    in
    let other : take (k + 1) (set room k x) ≡ take k room ++ x ∷ [] = take_more_set room k x place in
    subst (λ (xs : List Association). AllZip IsToldAs xs (take (k + 1) (set room k x))) (sym one)
    (subst (λ (ys : List SukAssociation). AllZip IsToldAs (take k held ++ a ∷ []) ys) (sym other)
    (all_zipped_more IsToldAs (take k held) (take k room) a x all told))

-- all
pub told_all : (held : List Association) (room filled : List SukAssociation) (n : ℕ) → n ≡ length held → AllZip IsToldAs (take n held) (take n filled) → drop n filled ≡ drop n room → FillsRoom held room filled
told_all held room filled n whole all behind =
    let told : AllZip IsToldAs held (take n filled) =
    subst (λ (xs : List Association). AllZip IsToldAs xs (take n filled)) (take_all n held (omega arith)) all
    in
    record {
      told = take n filled;
      each = told;
      written = sym (take-append-drop n filled) ∙ ap (λ (ys : List SukAssociation). take n filled ++ ys) (behind ∙ ap (λ (m : ℕ). drop m room) whole);
    }
