-- What a list of numbers leaves taken.
use Rattle.std.proofs.Common.{◌≡◌, ◌⊎◌, ◌<◌, ℕ, zero, suc, true, List, [], ◌∷◌, take, Option, Some, None, inl, inr, sym, ap, ◌∙◌, arith}
use Rattle.std.specs.Prelude.{nat_eq, slice_get}
use Rattle.std.specs.FinSet as set
use Rattle.std.specs.Ordering.{nat_cmp}
use Rattle.std.proofs.lemmas.Bool.{or_cases, or_left, or_right, eqb-true, eq-eqb}
use Rattle.esp.specs.Delivery.{taken_after}
use Rattle.esp.proofs.NumberLemmas.{contains-insert_nat}

insert_keeps : (s : set.FinSet nat_cmp) (k q : ℕ) → set.contains s q ≡ true → set.contains (set.insert s k) q ≡ true
insert_keeps s k q h = contains-insert_nat s k q ∙ or_right (nat_eq q k) (set.contains s q) h

-- what is taken stays taken
pub stays_taken : (taken : set.FinSet nat_cmp) (ns : List (Option ℕ)) (q : ℕ) → set.contains taken q ≡ true → set.contains (taken_after taken ns) q ≡ true
stays_taken taken [] q h = h
stays_taken taken (None ∷ ns) q h = stays_taken taken ns q h
stays_taken taken (Some n ∷ ns) q h = stays_taken (set.insert taken n) ns q (insert_keeps taken n q h)

-- what was judged at a place is taken at every later one
pub taken_later : (taken : set.FinSet nat_cmp) (ns : List (Option ℕ)) (i j n : ℕ) → slice_get ns j ≡ Some (Some n) → j < i → set.contains (taken_after taken (take i ns)) n ≡ true
taken_later taken [] i j n e h = absurd (cc)
taken_later taken (m ∷ ns) zero j n e h = absurd (omega (arith, h))
taken_later taken (Some m ∷ ns) (suc i) zero n e h =
    let same : m ≡ n = cc in
    stays_taken (set.insert taken m) (take i ns) n (contains-insert_nat taken m n ∙ or_left (nat_eq n m) (set.contains taken n) (eq-eqb n m (sym same)))
taken_later taken (None ∷ ns) (suc i) zero n e h = absurd (cc)
taken_later taken (Some m ∷ ns) (suc i) (suc j) n e h = taken_later (set.insert taken m) ns i j n e (omega (arith, h))
taken_later taken (None ∷ ns) (suc i) (suc j) n e h = taken_later taken ns i j n e (omega (arith, h))

-- what is taken at a place was taken at first, or judged at an earlier one
pub record JudgedBefore (ns : List (Option ℕ)) (i n : ℕ) : Type 0 where
  pub place : ℕ
  pub earlier : place < i
  pub judged : slice_get ns place ≡ Some (Some n)

later : (m : Option ℕ) (ns : List (Option ℕ)) (i n : ℕ) → JudgedBefore ns i n → JudgedBefore (m ∷ ns) (suc i) n
later m ns i n h = record { place = suc h.place; earlier = let e = h.earlier in omega (arith, e); judged = h.judged }

pub taken_from : (taken : set.FinSet nat_cmp) (ns : List (Option ℕ)) (i n : ℕ) → set.contains (taken_after taken (take i ns)) n ≡ true → (set.contains taken n ≡ true) ⊎ JudgedBefore ns i n
taken_from taken [] zero n h = inl h
taken_from taken [] (suc i) n h = inl h
taken_from taken (m ∷ ns) zero n h = inl h
taken_from taken (None ∷ ns) (suc i) n h = elim (taken_from taken ns i n h) [
  | inl at_first ↦ inl at_first
  | inr before ↦ inr (later None ns i n before)
]
taken_from taken (Some m ∷ ns) (suc i) n h = elim (taken_from (set.insert taken m) ns i n h) [
  | inl at_first ↦ elim (or_cases (nat_eq n m) (set.contains taken n) (sym (contains-insert_nat taken m n) ∙ at_first)) [
    | inl here ↦ inr (record { place = 0; earlier = omega arith; judged = let same : n ≡ m = eqb-true n m here in ap (λ (k : ℕ). Some (Some k)) (sym same) })
    | inr before ↦ inl before
  ]
  | inr before ↦ inr (later (Some m) ns i n before)
]
