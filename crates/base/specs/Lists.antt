-- The first of a list.
use Rattle.std.specs.Prelude.{◌≡◌, ◌<◌, ℕ, List, Some, slice_get}

-- x is the first of a list of which P holds, at this place
pub record IsFirst {A : Type 0} (P : A → Type 0) (xs : List A) (place : ℕ) (x : A) : Type 0 where
  pub there : slice_get xs place ≡ Some x
  pub holds : P x
  pub before : (k : ℕ) (y : A) → k < place → slice_get xs k ≡ Some y → ¬ P y

-- P holds of none in a list
abbrev pub HoldsOfNone : {A : Type 0} → (A → Type 0) → List A → Type 0
HoldsOfNone {A} P xs = (k : ℕ) (y : A) → slice_get xs k ≡ Some y → ¬ P y
