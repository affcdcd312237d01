-- Entries that are spelled one after the other.
use Rattle.std.proofs.Common.{◌≡◌, ◌<◌, ◌+◌, ℕ, zero, suc, List, [], ◌∷◌, ◌++◌, length, get_or, take, refl, sym, ap, ◌∙◌, Option, Some, None, arith}
use Rattle.std.proofs.lemmas.List.{take_more}
use Rattle.std.proofs.lemmas.Option.{none-some, same_Some}
use Rattle.policy.specs.declared.entry.Entry.{Entry}
use Rattle.sukperin.specs.Terms.{entries_spelled, entry_spelled, spelled_before}
use Rattle.sukperin.specs.declared.terms.SukEntry.{SukEntry}

-- what stands before what
parts : (e : Option Entry) (rest : Option (List Entry)) (ys : List Entry) → spelled_before e rest ≡ Some ys → (z : Entry) × (zs : List Entry) × (e ≡ Some z) × (rest ≡ Some zs) × (ys ≡ z ∷ zs)
parts (Some z) (Some zs) ys h = (z, zs, refl, refl, sym (same_Some (z ∷ zs) ys h))
parts (Some z) None ys h = absurd (none-some ys h)
parts None (Some zs) ys h = absurd (none-some ys h)
parts None None ys h = absurd (none-some ys h)

before_none : (e : Option Entry) → spelled_before e None ≡ None
before_none (Some z) = refl
before_none None = refl

none_before : (rest : Option (List Entry)) → spelled_before None rest ≡ None
none_before (Some zs) = refl
none_before None = refl

-- one more behind others
push : (xs : List SukEntry) (ys : List Entry) (x : SukEntry) (y : Entry) → entries_spelled xs ≡ Some ys → entry_spelled x ≡ Some y → entries_spelled (xs ++ x ∷ []) ≡ Some (ys ++ y ∷ [])
push [] ys x y all one =
    ap (λ (e : Option Entry). spelled_before e (Some [])) one
    ∙ ap (λ (zs : List Entry). Some (zs ++ y ∷ [])) (same_Some [] ys all)
push (v ∷ xs) ys x y all one =
    let s = parts (entry_spelled v) (entries_spelled xs) ys all in
    ap (λ (e : Option Entry). spelled_before e (entries_spelled (xs ++ x ∷ []))) s.2
    ∙ ap (spelled_before (Some s.0)) (push xs s.1 x y s.3 one)
    ∙ ap (λ (zs : List Entry). Some (zs ++ y ∷ [])) (sym s.4)

pub spelled_more : (xs : List SukEntry) (k : ℕ) (d : SukEntry) (ys : List Entry) (y : Entry) → k < length xs → entries_spelled (take k xs) ≡ Some ys → entry_spelled (get_or xs k d) ≡ Some y → entries_spelled (take (k + 1) xs) ≡ Some (ys ++ y ∷ [])
spelled_more xs k d ys y within all one =
    ap entries_spelled (take_more xs k d within) ∙ push (take k xs) ys (get_or xs k d) y all one

-- where one is none, all are none
pub spelled_none : (xs : List SukEntry) (k : ℕ) (d : SukEntry) → k < length xs → entry_spelled (get_or xs k d) ≡ None → entries_spelled xs ≡ None
spelled_none [] k d within one = absurd (omega arith)
spelled_none (x ∷ xs) zero d within one =
    ap (λ (e : Option Entry). spelled_before e (entries_spelled xs)) one ∙ none_before (entries_spelled xs)
spelled_none (x ∷ xs) (suc k) d within one =
    ap (spelled_before (entry_spelled x)) (spelled_none xs k d (omega arith) one) ∙ before_none (entry_spelled x)
