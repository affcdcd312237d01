-- Lists of which one item is replaced, or that grow by one.
use Rattle.std.proofs.Common.{◌≡◌, ◌≢◌, ◌⊎◌, inl, inr, ℕ, zero, suc, ◌++◌, ◌∷◌, [], List, length, Some, ap, refl, arith}
use Rattle.std.specs.List.{slice_get}
use Rattle.std.specs.Prelude.{slice_set}

same_item : {A : Type 0} (x y : A) → Some x ≡ Some y → y ≡ x
same_item x y e = cc

next_place : {A : Type 0} (y b : A) (P : Type 0) (i k : ℕ) → ((k ≡ i) × (b ≡ y)) ⊎ ((k ≢ i) × P) → ((suc k ≡ suc i) × (b ≡ y)) ⊎ ((suc k ≢ suc i) × P)
next_place y b P i k (inl (same, is)) = inl (ap suc same, is)
next_place y b P i k (inr (other, is)) = inr (λ e. other (omega arith), is)

-- what stands in a list of which one item is replaced: that item, or what stood there before
pub replaced : {A : Type 0} (xs : List A) (i : ℕ) (y : A) (k : ℕ) (b : A) → slice_get (slice_set xs i y) k ≡ Some b
    → ((k ≡ i) × (b ≡ y)) ⊎ ((k ≢ i) × (slice_get xs k ≡ Some b))
replaced [] i y k b is = absurd cc
replaced (x ∷ xs) zero y zero b is = inl (refl, same_item y b is)
replaced (x ∷ xs) zero y (suc k) b is = inr (λ e. absurd (omega arith), is)
replaced (x ∷ xs) (suc i) y zero b is = inr (λ e. absurd (omega arith), is)
replaced (x ∷ xs) (suc i) y (suc k) b is = next_place y b (slice_get xs k ≡ Some b) i k (replaced xs i y k b is)

-- what stands in a list that grew by one: the last item, or what stood there before
pub grown : {A : Type 0} (xs : List A) (y : A) (k : ℕ) (b : A) → slice_get (xs ++ y ∷ []) k ≡ Some b
    → ((k ≡ length xs) × (b ≡ y)) ⊎ ((k ≢ length xs) × (slice_get xs k ≡ Some b))
grown [] y zero b is = inl (refl, same_item y b is)
grown [] y (suc k) b is = absurd cc
grown (x ∷ xs) y zero b is = inr (λ e. absurd (omega arith), is)
grown (x ∷ xs) y (suc k) b is = next_place y b (slice_get xs k ≡ Some b) (length xs) k (grown xs y k b is)
