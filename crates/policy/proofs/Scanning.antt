-- Looking through a list for the first item of a kind, as loops do.
use Rattle.std.proofs.Common.{◌≡◌, ◌⊎◌, inl, inr, ℕ, ◌+◌, ◌<◌, ◌≤◌, List, length, Some, sym, ◌∙◌, ap, subst, arith}
use Rattle.std.specs.List.{slice_get}
use Rattle.std.proofs.lemmas.Option.{slice_get_within}
use Rattle.std.proofs.lemmas.Bool.Decides.{leb_tells}
use Rattle.base.specs.Lists.{HoldsOfNone}

-- P holds of no item before the place
abbrev pub HoldsOfNoneBefore : {A : Type 0} → (A → Type 0) → List A → ℕ → Type 0
HoldsOfNoneBefore {A} P xs place = (k : ℕ) (y : A) → k < place → slice_get xs k ≡ Some y → ¬ P y

pub none_yet : {A : Type 0} (P : A → Type 0) (xs : List A) → HoldsOfNoneBefore P xs 0
none_yet P xs = λ k y before there holds. omega arith

pub same_item : {A : Type 0} (x y : A) → Some x ≡ Some y → x ≡ y
same_item x y e = cc

pub before_or_here : (k place : ℕ) → k < place + 1 → (k < place) ⊎ (k ≡ place)
before_or_here k place below = elim (leb_tells place k) [ inl (_, above) ↦ inr (omega arith) | inr (_, less) ↦ inl less ]

pub none_more : {A : Type 0} (P : A → Type 0) (xs : List A) (place : ℕ) (x : A) → slice_get xs place ≡ Some x → ¬ P x → HoldsOfNoneBefore P xs place → HoldsOfNoneBefore P xs (place + 1)
none_more P xs place x there not before = λ k y below is holds.
    elim (before_or_here k place below) [
      | inl less ↦ before k y less is holds
      | inr same ↦ not (subst P (same_item y x (sym is ∙ ap (slice_get xs) same ∙ there)) holds)
    ]

pub none_at_all : {A : Type 0} (P : A → Type 0) (xs : List A) (place : ℕ) → length xs ≤ place → HoldsOfNoneBefore P xs place → HoldsOfNone P xs
none_at_all P xs place end before = λ k y is holds. before k y (let within = slice_get_within xs k y is in omega arith) is holds

-- P holds of each item before the place
abbrev pub HoldsOfEachBefore : {A : Type 0} → (A → Type 0) → List A → ℕ → Type 0
HoldsOfEachBefore {A} P xs place = (k : ℕ) (y : A) → k < place → slice_get xs k ≡ Some y → P y

pub each_yet : {A : Type 0} (P : A → Type 0) (xs : List A) → HoldsOfEachBefore P xs 0
each_yet P xs = λ k y before there. absurd (omega arith)

pub each_more : {A : Type 0} (P : A → Type 0) (xs : List A) (place : ℕ) (x : A) → slice_get xs place ≡ Some x → P x → HoldsOfEachBefore P xs place → HoldsOfEachBefore P xs (place + 1)
each_more P xs place x there here before = λ k y below is.
    elim (before_or_here k place below) [
      | inl less ↦ before k y less is
      | inr same ↦ subst P (same_item x y (sym there ∙ ap (slice_get xs) (sym same) ∙ is)) here
    ]

pub each_of_all : {A : Type 0} (P : A → Type 0) (xs : List A) (place : ℕ) → length xs ≤ place → HoldsOfEachBefore P xs place → (k : ℕ) (y : A) → slice_get xs k ≡ Some y → P y
each_of_all P xs place end before = λ k y is. before k y (let within = slice_get_within xs k y is in omega arith) is
