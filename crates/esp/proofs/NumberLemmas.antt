-- Sequence numbers and sets of numbers: a packet has one number, and the greatest of a set.
use Rattle.std.proofs.Common.{◌≡◌, ℕ, ◌≤◌, Bool, true, false, List, [], ◌∷◌, refl, sym, ap, ◌∙◌, arith, inl, inr}
use Rattle.std.specs.Prelude.{◌||◌, max, nat_eq}
use Rattle.std.specs.Ordering.{nat_cmp, eq_by_cmp}
use Rattle.std.specs.Cmp.{nat_cmp_total, unsigned_tied}
use Rattle.std.specs.List.{list_any}
use Rattle.std.specs.FinSet as set
use Rattle.std.proofs.lemmas.Bool.{or_cases, or_left, or_right, eqb-true, eq-eqb, cases_lt, false≢true}
use Rattle.replay.specs.Recovery.{one_number}
use Rattle.replay.specs.Window.{Seen}
use Rattle.esp.specs.declared.sa.Sa.{Sa}
use Rattle.esp.specs.Judging.{IsNumber, Judges, low_half}
use Rattle.esp.specs.Delivery.{greatest_of, greatest}

-- a packet has one number
pub one_number_of : (e : Bool) (w : Seen) (low n m : ℕ) → IsNumber e w low n → IsNumber e w low m → n ≡ m
one_number_of false w low n m r s = r.0 ∙ sym s.0
one_number_of true w low n m r s = one_number w.top w.size low n m r s

-- no packet has the sequence number 0
pub number_positive : (e : Bool) (w : Seen) (low n : ℕ) → IsNumber e w low n → 1 ≤ n
number_positive false w low n h = h.1
number_positive true w low n h = h.not_zero

-- a packet is judged as one number, which is not 0
pub judged_as_one : (a : Sa) (w : Seen) (b : List ℕ) (n m : ℕ) → Judges a w b n → Judges a w b m → n ≡ m
judged_as_one a w b n m j k = one_number_of a.extended w (low_half b) n m j.number k.number

pub judged_positive : (a : Sa) (w : Seen) (b : List ℕ) (n : ℕ) → Judges a w b n → 1 ≤ n
judged_positive a w b n j = number_positive a.extended w (low_half b) n j.number

-- no listed sequence number is above the greatest
listed-le : (ns : List ℕ) (n : ℕ) → list_any (eq_by_cmp nat_cmp n) ns ≡ true → n ≤ greatest_of ns
listed-le [] n e = absurd (false≢true e)
listed-le (m ∷ ms) n e = elim (or_cases (eq_by_cmp nat_cmp n m) (list_any (eq_by_cmp nat_cmp n) ms) e) [
  | inl here ↦ let same : n ≡ m = eqb-true n m (sym (unsigned_tied n m) ∙ here) in omega arith
  | inr below ↦ let h = listed-le ms n below in omega arith
]

listed-below : (g m : ℕ) (ms : List ℕ) → g ≡ greatest_of ms → list_any (eq_by_cmp nat_cmp (greatest_of ms)) ms ≡ true → list_any (eq_by_cmp nat_cmp g) (m ∷ ms) ≡ true
listed-below g m ms e h = or_right (eq_by_cmp nat_cmp g m) (list_any (eq_by_cmp nat_cmp g) ms) (rw e h)

listed-here : (g m : ℕ) (ms : List ℕ) → g ≡ m → list_any (eq_by_cmp nat_cmp g) (m ∷ ms) ≡ true
listed-here g m ms e = or_left (eq_by_cmp nat_cmp g m) (list_any (eq_by_cmp nat_cmp g) ms) (unsigned_tied g m ∙ eq-eqb g m e)

-- the greatest is listed
greatest-listed : (ns : List ℕ) → 1 ≤ greatest_of ns → list_any (eq_by_cmp nat_cmp (greatest_of ns)) ns ≡ true
greatest-listed [] h = absurd (omega arith)
greatest-listed (m ∷ ms) h = elim (cases_lt m (greatest_of ms)) [
  | inl under ↦ listed-below (max m (greatest_of ms)) m ms (omega arith) (greatest-listed ms (omega arith))
  | inr over ↦ listed-here (max m (greatest_of ms)) m ms (omega arith)
]

pub contained-le : (s : set.FinSet nat_cmp) (n : ℕ) → set.contains s n ≡ true → n ≤ greatest s
contained-le s n e = listed-le (set.items s) n (sym (set.contains-items s n) ∙ e)

pub greatest-contained : (s : set.FinSet nat_cmp) → 1 ≤ greatest s → set.contains s (greatest s) ≡ true
greatest-contained s h = set.contains-items s (greatest s) ∙ greatest-listed (set.items s) h

-- a bound that is 0 or contained is the greatest
pub greatest-is : (s : set.FinSet nat_cmp) (g : ℕ) → ((n : ℕ) → set.contains s n ≡ true → n ≤ g) → (1 ≤ g → set.contains s g ≡ true) → g ≡ greatest s
greatest-is s g bound attained = elim (cases_lt 0 g) [
  | inl positive ↦
      let low = contained-le s g (attained positive) in
      let high = bound (greatest s) (greatest-contained s (omega arith)) in
      omega arith
  | inr none ↦ elim (cases_lt 0 (greatest s)) [
    | inl positive ↦ let high = bound (greatest s) (greatest-contained s positive) in omega arith
    | inr nothing ↦ omega arith
  ]
]

-- a number is in the set after an insert
pub contains-insert_nat : (s : set.FinSet nat_cmp) (k q : ℕ) → set.contains (set.insert s k) q ≡ (nat_eq q k || set.contains s q)
contains-insert_nat s k q = set.contains-insert nat_cmp_total s k q ∙ ap (λ b. b || set.contains s q) (unsigned_tied q k)

pub greatest-insert : (s : set.FinSet nat_cmp) (k : ℕ) → 1 ≤ k → greatest (set.insert s k) ≡ max (greatest s) k
greatest-insert s k positive = sym (greatest-is (set.insert s k) (max (greatest s) k)
    (λ n e. elim (or_cases (nat_eq n k) (set.contains s n) (sym (contains-insert_nat s k n) ∙ e)) [
      | inl same ↦ let e : n ≡ k = eqb-true n k same in omega arith
      | inr in_s ↦ let h = contained-le s n in_s in omega arith
    ])
    (λ h. elim (cases_lt (greatest s) k) [
      | inl above ↦
          let same : max (greatest s) k ≡ k = omega arith in
          rw same (contains-insert_nat s k k ∙ or_left _ _ (eq-eqb k k refl))
      | inr below ↦
          let same : max (greatest s) k ≡ greatest s = omega arith in
          rw same (contains-insert_nat s k (greatest s) ∙ or_right _ _ (greatest-contained s (omega arith)))
    ]))
