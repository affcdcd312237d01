-- How many IKE SAs are half open, and which SPIs are in use.
use Rattle.std.proofs.Common.{◌≡◌, ◌≢◌, ◌||◌, ℕ, zero, suc, ◌+◌, ◌≤◌, ◌++◌, ◌∷◌, [], Bool, true, false, cond, List, Some, ap, refl, sym, ◌∙◌, arith}
use Rattle.std.specs.List.{list_any, slice_get}
use Rattle.std.specs.Prelude.{◌==◌, slice_set}
use Rattle.std.proofs.lemmas.Bool.{eq-eqb}
use Rattle.std.proofs.lemmas.List.Sums.{sum_by-append}
use Rattle.association.specs.declared.phase.Association.{Association}
use Rattle.association.specs.declared.phase.Phase.{Phase}
use Rattle.association.specs.declared.phase.Phase.TheVariants as phase
use Rattle.initial.specs.Answering.{IsHalfOpen}
use Rattle.ike.specs.Machines.{half_open_count, has_own_spi, is_bad_spi, is_half_open, is_half_open_phase, own_spi}

-- ---- half-open IKE SAs

abbrev pub weight : Association → ℕ
weight a = cond (is_half_open a) 1 0

from_zero : (n : ℕ) → 0 + n ≡ n
from_zero n = omega arith

count_next : (a : Association) (xs : List Association) → half_open_count (a ∷ xs) ≡ weight a + half_open_count xs
count_next a xs = sum_by-append weight (a ∷ []) xs ∙ ap (λ n. n + half_open_count xs) (from_zero (weight a))

pub count_grown : (xs : List Association) (b : Association) → half_open_count (xs ++ b ∷ []) ≡ half_open_count xs + weight b
count_grown xs b = sum_by-append weight xs (b ∷ []) ∙ ap (λ n. half_open_count xs + n) (from_zero (weight b))

weight_by : (p q : Bool) → (q ≡ true → p ≡ true) → cond q 1 0 ≤ cond p 1 0
weight_by true true only = omega arith
weight_by true false only = omega arith
weight_by false true only = let clash : false ≡ true = only refl in absurd cc
weight_by false false only = omega arith

most : (p : Bool) → cond p 1 0 ≤ 1
most true = omega arith
most false = omega arith

pub weight_most : (a : Association) → weight a ≤ 1
weight_most a = most (is_half_open a)

opened_phase : (p : Phase) → is_half_open_phase p ≡ true → IsHalfOpen p
opened_phase (phase.InitSent sent) is = absurd cc
opened_phase (phase.AuthSent sent) is = absurd cc
opened_phase (phase.HalfOpen opened) is = record { opened = opened; is = refl }
opened_phase (phase.Established keys) is = absurd cc
opened_phase (phase.Closed keys at) is = absurd cc

counted_phase : (p : Phase) → IsHalfOpen p → is_half_open_phase p ≡ true
counted_phase p h = ap is_half_open_phase h.is

same_first : (a x : Association) → Some x ≡ Some a → x ≡ a
same_first a x e = cc

-- one that comes to be half open was before
pub count_replaced : (xs : List Association) (place : ℕ) (a b : Association) → slice_get xs place ≡ Some a → (IsHalfOpen b.phase → IsHalfOpen a.phase)
    → half_open_count (slice_set xs place b) ≤ half_open_count xs
count_replaced [] place a b there only = absurd cc
count_replaced (x ∷ xs) zero a b there only =
    let lighter : weight b ≤ weight x = weight_by (is_half_open x) (is_half_open b)
    (λ is. ap is_half_open (same_first a x there) ∙ counted_phase a.phase (only (opened_phase b.phase is))) in
    let one = count_next b xs in
    let two = count_next x xs in
    omega (arith, lighter, one, two)
count_replaced (x ∷ xs) (suc place) a b there only =
    let rest = count_replaced xs place a b there only in
    let one = count_next x (slice_set xs place b) in
    let two = count_next x xs in
    omega (arith, rest, one, two)

-- one more is counted, or not
pub count_more : (a : Association) (xs : List Association) → half_open_count xs ≤ half_open_count (a ∷ xs)
count_more a xs = let one = count_next a xs in omega (arith, one)

-- one that comes to be half open was before, and so it is with the others
pub count_lighter : (a b : Association) (xs ys : List Association) → (IsHalfOpen b.phase → IsHalfOpen a.phase) → half_open_count ys ≤ half_open_count xs → half_open_count (b ∷ ys) ≤ half_open_count (a ∷ xs)
count_lighter a b xs ys only less =
    let lighter : weight b ≤ weight a = weight_by (is_half_open a) (is_half_open b) (λ is. counted_phase a.phase (only (opened_phase b.phase is))) in
    let one = count_next b ys in
    let two = count_next a xs in
    omega (arith, lighter, less, one, two)

-- ---- SPIs in use

or_left : (b c : Bool) → (b || c) ≡ false → b ≡ false
or_left true c is = absurd cc
or_left false c is = refl

or_right : (b c : Bool) → (b || c) ≡ false → c ≡ false
or_right true c is = absurd cc
or_right false c is = is

none_passes : (p : Association → Bool) (xs : List Association) (k : ℕ) (y : Association) → list_any p xs ≡ false → slice_get xs k ≡ Some y → p y ≡ false
none_passes p [] k y none there = absurd cc
none_passes p (x ∷ xs) zero y none there =
    ap p (sym (same_first y x there)) ∙ or_left (p x) (list_any p xs) none
none_passes p (x ∷ xs) (suc k) y none there =
    none_passes p xs k y (or_right (p x) (list_any p xs) none) there

clash : (b : Bool) → b ≡ true → b ≡ false → ⊥
clash true one other = absurd cc
clash false one other = absurd cc

pub not_zero : (spi : ℕ) (xs : List Association) → is_bad_spi spi xs ≡ false → spi ≢ 0
not_zero spi xs usable = λ e. clash (spi == 0) (eq-eqb spi 0 e) (or_left (spi == 0) (list_any (has_own_spi spi) xs) usable)

pub not_used : (spi : ℕ) (xs : List Association) (k : ℕ) (c : Association) → is_bad_spi spi xs ≡ false → slice_get xs k ≡ Some c → own_spi c ≢ spi
not_used spi xs k c usable there =
    λ e. clash (own_spi c == spi) (eq-eqb (own_spi c) spi e)
    (none_passes (has_own_spi spi) xs k c (or_right (spi == 0) (list_any (has_own_spi spi) xs) usable) there)
