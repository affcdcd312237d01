-- Sets of numbers: what is in one after a change, its gap, and the set that a gap and its marks show.
use Rattle.std.proofs.Common.{◌≡◌, ◌≢◌, ◌+◌, ◌-◌, ◌*◌, ◌/◌, ◌%◌, ◌^◌, ◌<◌, ◌≤◌, ◌⊎◌, ℕ, zero, suc, Bool, true, false, ◌||◌, nat_eq, nat_lt, arith, sym, ap, ◌∙◌, refl, inl, inr, subst, w16}
use Rattle.std.proofs.lemmas.Bool.{true≢false, eq-eqb, ne_eqb}
use Rattle.std.proofs.lemmas.Bool.Decides.{eqb_tells, leb_tells, nat_tests}
use Rattle.std.proofs.lemmas.Nat.{or_of_16, mod_below}
use Rattle.std.proofs.lemmas.Nat.Bits.{bit_at_above, bit_at-suc, bit_at_lowest, bit_at_set_same, bit_at_set_other}
use Rattle.std.specs.Cmp.{nat_cmp_total, unsigned_tied}
use Rattle.std.specs.FinSet as set
use Rattle.std.specs.Int.{bit_at}
use Rattle.std.specs.Int.RustNames.{bit_or}
use Rattle.requests.specs.Numbers.{NumberSet, HasNumber, LacksNumber, IsGap}
use Rattle.requests.specs.Storage.{AreMarks, counted, is_counted, passing, with_member}

pub member_here : (s : NumberSet) (k q : ℕ) → q ≡ k → set.contains (set.insert s k) q ≡ true
member_here s k q same = set.contains-insert nat_cmp_total s k q ∙ ap (λ b. b || set.contains s q) (unsigned_tied q k ∙ eq-eqb q k same)

pub member_apart : (s : NumberSet) (k q : ℕ) → q ≢ k → set.contains (set.insert s k) q ≡ set.contains s q
member_apart s k q apart = set.contains-insert nat_cmp_total s k q ∙ ap (λ b. b || set.contains s q) (unsigned_tied q k ∙ ne_eqb q k apart)

pub none_in_empty : (q : ℕ) → LacksNumber set.empty q
none_in_empty q = set.contains-empty _ q

pub same_set : (s t : NumberSet) → ((q : ℕ) → set.contains s q ≡ set.contains t q) → s ≡ t
same_set s t is = set.same_set nat_cmp_total set.nat_cmp-IsAntisymmetric s t is

-- what was in a set still is, and what is was, or is the new number
pub still_member : (s : NumberSet) (k q : ℕ) → HasNumber s q → HasNumber (set.insert s k) q
still_member s k q was =
    elim (eqb_tells q k) [
      | inl (_, same) ↦ member_here s k q same
      | inr (_, apart) ↦ member_apart s k q apart ∙ was
    ]

pub not_both : (s : NumberSet) (q : ℕ) → HasNumber s q → ¬ LacksNumber s q
not_both s q has lacks = true≢false (sym has ∙ lacks)

pub in_or_out : (s : NumberSet) (q : ℕ) → (HasNumber s q) ⊎ (LacksNumber s q)
in_or_out s q = elim (set.contains s q) as (λ b. (b ≡ true) ⊎ (b ≡ false)) [ true ↦ inl refl | false ↦ inr refl ]

-- ---- the gap
pub one_gap : (s : NumberSet) (a b : ℕ) → IsGap s a → IsGap s b → a ≡ b
one_gap s a b first second =
    elim (leb_tells a b) [
      | inl (_, upward) ↦
          elim (leb_tells b a) [
            | inl (_, downward) ↦ omega arith
            | inr (_, less) ↦ absurd (not_both s a (second.below a less) first.missing)
          ]
      | inr (_, less) ↦ absurd (not_both s b (first.below b less) second.missing)
    ]

-- a number that is not in the set lies at the gap or above it
pub above_gap : (s : NumberSet) (gap n : ℕ) → IsGap s gap → LacksNumber s n → gap ≤ n
above_gap s gap n is_gap lacks =
    elim (leb_tells gap n) [
      | inl (_, upward) ↦ upward
      | inr (_, less) ↦ absurd (not_both s n (is_gap.below n less) lacks)
    ]

-- the gap only moves up
pub gap_rises : (s : NumberSet) (k was is : ℕ) → IsGap s was → IsGap (set.insert s k) is → was ≤ is
gap_rises s k was is first second =
    elim (leb_tells was is) [
      | inl (_, upward) ↦ upward
      | inr (_, less) ↦ absurd (not_both (set.insert s k) is (still_member s k is (first.below is less)) second.missing)
    ]

-- ---- the numbers below an end that pass a test
with_member_here : (s : NumberSet) (k : ℕ) (b : Bool) → set.contains s k ≡ false → set.contains (with_member s k b) k ≡ b
with_member_here s k true none = member_here s k k refl
with_member_here s k false none = none

with_member_apart : (s : NumberSet) (k q : ℕ) (b : Bool) → q ≢ k → set.contains (with_member s k b) q ≡ set.contains s q
with_member_apart s k q true apart = member_apart s k q apart
with_member_apart s k q false apart = refl

passing_above : (p : ℕ → Bool) (n q : ℕ) → n ≤ q → set.contains (passing p n) q ≡ false
unfolding passing
passing_above p zero q above = none_in_empty q
passing_above p (suc n) q above = with_member_apart (passing p n) n q (p n) (λ same. omega arith) ∙ passing_above p n q (omega arith)

passing_inside : (p : ℕ → Bool) (n q : ℕ) → q < n → set.contains (passing p n) q ≡ p q
unfolding passing
passing_inside p zero q inside = absurd (omega arith)
passing_inside p (suc n) q inside =
    elim (eqb_tells q n) [
      | inl (_, same) ↦
          ap (set.contains (with_member (passing p n) n (p n))) same
          ∙ with_member_here (passing p n) n (p n) (passing_above p n n (omega arith))
          ∙ ap p (sym same)
      | inr (_, apart) ↦ with_member_apart (passing p n) n q (p n) apart ∙ passing_inside p n q (omega arith)
    ]

-- ---- the set that a gap and its marks show
pub counted_below : (gap marks q : ℕ) → q < gap → is_counted gap marks q ≡ true
counted_below gap marks q below = ap (λ b. b || nat_eq (bit_at marks (q - gap)) 1) (let is : nat_lt q gap ≡ true = grind (arith, nat_tests) in is)

pub counted_above : (gap marks q : ℕ) → gap ≤ q → is_counted gap marks q ≡ nat_eq (bit_at marks (q - gap)) 1
counted_above gap marks q above = ap (λ b. b || nat_eq (bit_at marks (q - gap)) 1) (let is : nat_lt q gap ≡ false = grind (arith, nat_tests) in is)

pub not_counted : (gap marks q : ℕ) → gap ≤ q → bit_at marks (q - gap) ≡ 0 → is_counted gap marks q ≡ false
not_counted gap marks q above clear = counted_above gap marks q above ∙ ap (λ n. nat_eq n 1) clear

pub counted_at : (gap marks q : ℕ) → marks < 2 ^ 16 → set.contains (counted gap marks) q ≡ is_counted gap marks q
counted_at gap marks q fits =
    elim (leb_tells (gap + 16) q) [
      | inl (_, outside) ↦
          passing_above (is_counted gap marks) (gap + 16) q outside
          ∙ sym (not_counted gap marks q (omega arith) (bit_at_above marks 16 (q - gap) fits (omega arith)))
      | inr (_, inside) ↦ passing_inside (is_counted gap marks) (gap + 16) q inside
    ]

-- a set that answers as these marks do is the one that they show
pub shows : (gap marks : ℕ) (s : NumberSet) → marks < 2 ^ 16 → ((q : ℕ) → is_counted gap marks q ≡ set.contains s q) → counted gap marks ≡ s
shows gap marks s fits same = same_set (counted gap marks) s (λ q. counted_at gap marks q fits ∙ same q)

pub is_gap_of : (gap marks : ℕ) → AreMarks gap marks → IsGap (counted gap marks) gap
is_gap_of gap marks are = let fits = are.width in let lowest = are.lowest in record {
  missing = counted_at gap marks gap fits ∙ not_counted gap marks gap (omega arith) (ap (bit_at marks) (let none : gap - gap ≡ 0 = omega arith in none) ∙ lowest);
  below = λ n below. counted_at gap marks n fits ∙ counted_below gap marks n below;
}

pub fits_of : (gap marks : ℕ) → AreMarks gap marks → (n : ℕ) → HasNumber (counted gap marks) n → n < 2 ^ 32
fits_of gap marks are n has = are.fits n (sym (counted_at gap marks n are.width) ∙ has)

-- nothing is shown from 16 above the gap on
pub none_far : (gap marks n : ℕ) → gap + 16 ≤ n → LacksNumber (counted gap marks) n
none_far gap marks n far = passing_above (is_counted gap marks) (gap + 16) n far

no_bits : (i : ℕ) → bit_at 0 i ≡ 0
no_bits i = bit_at_above 0 0 i (omega arith) (omega arith)

pub shows_none : counted 0 0 ≡ set.empty
shows_none = shows 0 0 set.empty (omega arith) (λ q. not_counted 0 0 q (omega arith) (no_bits (q - 0)) ∙ sym (none_in_empty q))

pub shows_zero : counted 1 0 ≡ set.insert set.empty 0
shows_zero =
    shows 1 0 (set.insert set.empty 0) (omega arith) (λ q. elim (eqb_tells q 0) [
      | inl (_, same) ↦ counted_below 1 0 q (omega arith) ∙ sym (member_here set.empty 0 q same)
      | inr (_, apart) ↦ not_counted 1 0 q (omega arith) (no_bits (q - 1)) ∙ sym (member_apart set.empty 0 q apart ∙ none_in_empty q)
    ])

pub no_marks : AreMarks 0 0
no_marks = record { width = omega arith; lowest = no_bits 0; fits = λ n is. absurd (true≢false (sym is ∙ not_counted 0 0 n (omega arith) (no_bits (n - 0)))) }

pub no_marks_at_1 : AreMarks 1 0
no_marks_at_1 = record {
  width = omega arith;
  lowest = no_bits 0;
  fits = λ n is. elim (leb_tells 1 n) [
    | inl (_, above) ↦ absurd (true≢false (sym is ∙ not_counted 1 0 n above (no_bits (n - 1))))
    | inr (_, below) ↦ omega arith
  ];
}

-- a bit is set
pub set_mark : (gap marks n : ℕ) (s : NumberSet) → marks < 2 ^ 16 → counted gap marks ≡ s → gap ≤ n → n < gap + 16 → (q : ℕ)
    → is_counted gap (bit_or marks (1 * 2 ^ (n - gap) % 2 ^ 16)) q ≡ set.contains (set.insert s n) q
set_mark gap marks n s fits is above near q =
    elim (eqb_tells q n) [
      | inl (_, same) ↦
          counted_above gap _ q (omega arith)
          ∙ ap (λ (i : ℕ). nat_eq (bit_at (bit_or marks (1 * 2 ^ (n - gap) % 2 ^ 16)) (i - gap)) 1) same
          ∙ ap (λ (b : ℕ). nat_eq b 1) (bit_at_set_same w16 marks (n - gap) (omega arith))
          ∙ sym (member_here s n q same)
      | inr (_, apart) ↦
          elim (leb_tells gap q) [
            | inl (_, upward) ↦
                counted_above gap _ q upward
                ∙ ap (λ (b : ℕ). nat_eq b 1) (bit_at_set_other w16 marks (n - gap) (omega arith) (q - gap) (λ same. apart (omega arith)))
                ∙ sym (counted_above gap marks q upward)
                ∙ sym (counted_at gap marks q fits)
                ∙ ap (λ t. set.contains t q) is
                ∙ sym (member_apart s n q apart)
            | inr (_, below) ↦
                counted_below gap _ q below
                ∙ sym (counted_below gap marks q below)
                ∙ sym (counted_at gap marks q fits)
                ∙ ap (λ t. set.contains t q) is
                ∙ sym (member_apart s n q apart)
          ]
    ]

-- the gap passes a mark
pub passed : (gap marks q : ℕ) → marks % 2 ≡ 1 → is_counted (gap + 1) (marks / 2) q ≡ is_counted gap marks q
passed gap marks q odd =
    elim (leb_tells (gap + 1) q) [
      | inl (_, above) ↦
          counted_above (gap + 1) (marks / 2) q above
          ∙ ap (λ (b : ℕ). nat_eq b 1) (sym (bit_at-suc marks (q - (gap + 1))))
          ∙ ap (λ (i : ℕ). nat_eq (bit_at marks i) 1) (let next : suc (q - (gap + 1)) ≡ q - gap = omega arith in next)
          ∙ sym (counted_above gap marks q (omega arith))
      | inr (_, below) ↦
          counted_below (gap + 1) (marks / 2) q below
          ∙ sym (elim (leb_tells gap q) [
            | inl (_, here) ↦
                counted_above gap marks q here
                ∙ ap (λ (i : ℕ). nat_eq (bit_at marks i) 1) (let none : q - gap ≡ 0 = omega arith in none)
                ∙ ap (λ (b : ℕ). nat_eq b 1) (bit_at_lowest marks ∙ odd)
            | inr (_, less) ↦ counted_below gap marks q less
          ])
    ]

-- what holds while the gap passes marks: what they show is the set with the new number
pub record IsInserted (was : NumberSet) (number gap marks : ℕ) : Type 0 where
  pub width : marks < 2 ^ 16
  pub shown : (q : ℕ) → is_counted gap marks q ≡ set.contains (set.insert was number) q
  pub fits : (q : ℕ) → HasNumber (set.insert was number) q → q < 2 ^ 32

-- as the loop begins
pub record BeginsInsertion (was : NumberSet) (number gap marks : ℕ) : Type 0 where
  pub above : gap ≤ number
  pub near : number < gap + 16
  pub begins : IsInserted was number gap (bit_or marks (1 * 2 ^ (number - gap) % 2 ^ 16))

pub insertion_begins : (gap marks number : ℕ) (was : NumberSet) → AreMarks gap marks → counted gap marks ≡ was → LacksNumber was number
    → ((g : ℕ) → IsGap was g → number < g + 16) → number < 2 ^ 32 → BeginsInsertion was number gap marks
insertion_begins gap marks number was are is lacks is_near small =
    let is_gap : IsGap was gap = subst (λ s. IsGap s gap) is (is_gap_of gap marks are) in
    let above : gap ≤ number = above_gap was gap number is_gap lacks in
    let near : number < gap + 16 = is_near gap is_gap in
    record {
      above = above;
      near = near;
      begins = record {
        width = or_of_16 marks (1 * 2 ^ (number - gap) % 2 ^ 16) are.width (mod_below (1 * 2 ^ (number - gap)) (2 ^ 16) (omega arith));
        shown = λ q. set_mark gap marks number was are.width is above near q;
        fits = λ q has. elim (eqb_tells q number) [
          | inl (_, same) ↦ omega arith
          | inr (_, apart) ↦ fits_of gap marks are q (ap (λ t. set.contains t q) is ∙ sym (member_apart was number q apart) ∙ has)
        ];
      };
    }

-- a marked gap is a number of 32 bits
pub passes_within : (was : NumberSet) (number gap marks : ℕ) → IsInserted was number gap marks → marks % 2 ≡ 1 → gap < 2 ^ 32
passes_within was number gap marks is odd = is.fits gap (sym (is.shown gap) ∙ sym (passed gap marks gap odd) ∙ counted_below (gap + 1) (marks / 2) gap (omega arith))

pub passes : (was : NumberSet) (number gap marks : ℕ) → IsInserted was number gap marks → marks % 2 ≡ 1 → IsInserted was number (gap + 1) (marks / 2)
passes was number gap marks is odd = record {
  width = let width = is.width in omega arith;
  shown = λ q. passed gap marks q odd ∙ is.shown q;
  fits = is.fits;
}

pub insertion_ends : (was : NumberSet) (number gap marks : ℕ) → IsInserted was number gap marks → marks % 2 ≢ 1 → AreMarks gap marks
insertion_ends was number gap marks is even = record {
  width = is.width;
  lowest = bit_at_lowest marks ∙ omega arith;
  fits = λ q counted. is.fits q (sym (is.shown q) ∙ counted);
}

pub inserted_shown : (was : NumberSet) (number gap marks : ℕ) → IsInserted was number gap marks → counted gap marks ≡ set.insert was number
inserted_shown was number gap marks is = shows gap marks (set.insert was number) is.width is.shown

-- ---- all numbers below one of them
pub all_below_shown : (gap n : ℕ) → set.contains (counted gap 0) n ≡ nat_lt n gap
all_below_shown gap n =
    elim (leb_tells gap n) [
      | inl (_, above) ↦ counted_at gap 0 n (omega arith) ∙ not_counted gap 0 n above (no_bits (n - gap)) ∙ sym (let is : nat_lt n gap ≡ false = grind (arith, nat_tests) in is)
      | inr (_, below) ↦ counted_at gap 0 n (omega arith) ∙ counted_below gap 0 n below ∙ sym (let is : nat_lt n gap ≡ true = grind (arith, nat_tests) in is)
    ]

pub all_below_marks : (gap : ℕ) → gap < 2 ^ 32 → AreMarks gap 0
all_below_marks gap small = record {
  width = omega arith;
  lowest = no_bits 0;
  fits = λ n is. elim (leb_tells gap n) [
    | inl (_, above) ↦ absurd (true≢false (sym is ∙ not_counted gap 0 n above (no_bits (n - gap))))
    | inr (_, below) ↦ omega arith
  ];
}

-- what is not below it is missing
pub missing_from : (s : NumberSet) (end n : ℕ) → ((q : ℕ) → set.contains s q ≡ nat_lt q end) → LacksNumber s n → end ≤ n
missing_from s end n are lacks = let not : nat_lt n end ≡ false = sym (are n) ∙ lacks in grind (arith, nat_tests, not)

pub missing_at : (s : NumberSet) (end n : ℕ) → ((q : ℕ) → set.contains s q ≡ nat_lt q end) → end ≤ n → LacksNumber s n
missing_at s end n are above = are n ∙ (let not : nat_lt n end ≡ false = grind (arith, nat_tests) in not)

pub present_below : (s : NumberSet) (end n : ℕ) → ((q : ℕ) → set.contains s q ≡ nat_lt q end) → HasNumber s n → n < end
present_below s end n are has = let is : nat_lt n end ≡ true = sym (are n) ∙ has in grind (arith, nat_tests, is)
