-- A ring of blocks of bits, and the window that it shows.
use Rattle.std.specs.Prelude.{◌≡◌, ℕ, ◌+◌, ◌*◌, ◌-◌, ◌/◌, ◌%◌, ◌^◌, ◌<◌, ◌≤◌, Bool, true, false, List, [], length, get_or, filter, replicate, ◌&&◌, ◌||◌, if◌then◌else◌, nat_eq, nat_lt, nat_le, refl, zero, suc}
use Rattle.std.specs.Int.{bit_at, w64}
use Rattle.std.specs.Int.RustNames.{bit_or}
use Rattle.std.specs.List.{list_any, slice_set}
use Rattle.std.specs.FinSet as set
use Rattle.std.proofs.Common.{arith, sym, ◌∙◌, ap, inl, inr, eq-eqb, ◌⊎◌, subst}
use Rattle.std.proofs.lemmas.Bool.Decides.{nat_tests, leb_tells, eqb_tells}
use Rattle.std.proofs.lemmas.Map.Views.{any-filter_same}
use Rattle.std.proofs.lemmas.Nat.{div-add-mod', mod_below}
use Rattle.std.proofs.lemmas.Nat.Bits.{bit_at_set_same, bit_at_set_other, bit_at-zero}
use Rattle.std.proofs.lemmas.List.{get_or-set_other, get_or-replicate, get_or_past, length-replicate, length-set}
use Rattle.std.proofs.lemmas.Grind.{get_or-set_at}
use Rattle.replay.specs.declared.window.Judgement.TheVariants.{Taken, Fresh}
use Rattle.replay.specs.Window.{IsSoundWindow, Takes, judgement, unused_window}
use Rattle.replay.proofs.WindowFacts.{IsFresh}
use Rattle.replay.specs.Blocks.{IsRing, is_power, is_marked, is_twin, last_numbers, shown, span_of, place_of}
use Rattle.replay.proofs.JudgementLemmas.{judged_in_span}

-- ---- places in the ring
times_below : (a b m : ℕ) → a ≤ b → a * m ≤ b * m
times_below a b m below = grind arith

next_times_below : (a b m : ℕ) → a < b → a * m + m ≤ b * m
next_times_below a b m below = grind arith

-- two blocks less than a round apart have one place only if they are one block
pub one_place : (m a b : ℕ) → a < b + m → b < a + m → a % m ≡ b % m → a ≡ b
one_place m a b below above same =
    let whole_a = div-add-mod' a m in
    let whole_b = div-add-mod' b m in
    elim (leb_tells (a / m) (b / m)) [
      | inl (_, first) ↦
          elim (leb_tells (b / m) (a / m)) [
            | inl (_, second) ↦ (let one : a / m ≡ b / m = omega arith in let times : a / m * m ≡ b / m * m = ap (λ x. x * m) one in omega arith)
            | inr (_, more) ↦ (let far = next_times_below (a / m) (b / m) m more in absurd (omega arith))
          ]
      | inr (_, more) ↦ (let far = next_times_below (b / m) (a / m) m more in absurd (omega arith))
    ]

within_a_round : (n q m : ℕ) → 1 ≤ m → n < q + 64 * (m - 1) → n / 64 < q / 64 + m
within_a_round n q m least span = omega arith

one_number : (n q : ℕ) → n / 64 ≡ q / 64 → n % 64 ≡ q % 64 → n ≡ q
one_number n q block bit = omega arith

both_true : (a b : Bool) → a ≡ true → b ≡ true → (a && b) ≡ true
both_true a b first second = cc

both_parts : (a b : Bool) → (a && b) ≡ true → (a ≡ true) × (b ≡ true)
both_parts true true is = (refl, refl)
both_parts true false is = cc
both_parts false b is = cc

-- two tests agree if each is true where the other is
same_test : (a b : Bool) → (a ≡ true → b ≡ true) → (b ≡ true → a ≡ true) → a ≡ b
same_test true true there back = refl
same_test true false there back = sym (there refl)
same_test false true there back = back refl
same_test false false there back = refl

-- sequence numbers less than a round apart share a bit only if they are one number
pub twin_is_same : (m n q : ℕ) → n / 64 < q / 64 + m → q / 64 < n / 64 + m → is_twin m n q ≡ nat_eq q n
twin_is_same m n q below above =
    same_test (is_twin m n q) (nat_eq q n)
    (λ is.
    let parts = both_parts (nat_eq (q / 64 % m) (n / 64 % m)) (nat_eq (q % 64) (n % 64)) is in
    let places : nat_eq (q / 64 % m) (n / 64 % m) ≡ true = parts.0 in
    let bits : nat_eq (q % 64) (n % 64) ≡ true = parts.1 in
    let place : q / 64 % m ≡ n / 64 % m = grind (arith, nat_tests, places) in
    let bit : q % 64 ≡ n % 64 = grind (arith, nat_tests, bits) in
    eq-eqb q n (one_number q n (one_place m (q / 64) (n / 64) above below place) bit))
    (λ is.
    let same : q ≡ n = grind (arith, nat_tests, is) in
    both_true _ _ (eq-eqb _ _ (ap (λ x. x / 64 % m) same)) (eq-eqb _ _ (ap (λ x. x % 64) same)))

-- ---- the sequence numbers that a ring shows
abbrev is_last : ℕ → ℕ → ℕ → Bool
is_last count top q = nat_le 1 q && (nat_le q top && nat_lt top (q + count))

last_step : (count below q : ℕ) → (nat_eq (suc below) q || is_last count below q) ≡ is_last (suc count) (suc below) q
last_step count below q = grind (arith, nat_tests)

none_last : (top q : ℕ) → false ≡ is_last 0 top q
none_last top q = grind (arith, nat_tests)

none_below : (count q : ℕ) → false ≡ is_last (suc count) 0 q
none_below count q = grind (arith, nat_tests)

any_last : (count top q : ℕ) → list_any (λ y. nat_eq y q) (last_numbers count top) ≡ is_last count top q
unfolding last_numbers
any_last zero top q = none_last top q
any_last (suc count) zero q = none_below count q
any_last (suc count) (suc below) q = ap (λ b. nat_eq (suc below) q || b) (any_last count below q) ∙ last_step count below q

-- a sequence number is shown exactly if its bit is set and it lies in the span
pub shown_is : (top : ℕ) (blocks : List ℕ) (q : ℕ) → set.contains (shown top blocks).taken q ≡ (is_marked blocks q && is_last (span_of blocks) top q)
shown_is top blocks q =
    set.contains-from_list_nat _ q
    ∙ any-filter_same (λ y. nat_eq y q) (is_marked blocks) (is_marked blocks q)
    (λ y is. let e : y ≡ q = grind (arith, nat_tests, is) in ap (is_marked blocks) e) (last_numbers (span_of blocks) top)
    ∙ ap (λ b. is_marked blocks q && b) (any_last (span_of blocks) top q)

-- what it means that a ring shows a sequence number
record IsShown (top : ℕ) (blocks : List ℕ) (q : ℕ) : Type 0 where
  marked : is_marked blocks q ≡ true
  not_zero : 1 ≤ q
  up_to_top : q ≤ top
  in_span : top < q + span_of blocks

last_parts : (count top q : ℕ) → is_last count top q ≡ true → (1 ≤ q) × (q ≤ top) × (top < q + count)
last_parts count top q is =
    let first = both_parts (nat_le 1 q) _ is in
    let rest = both_parts (nat_le q top) (nat_lt top (q + count)) first.1 in
    let a : nat_le 1 q ≡ true = first.0 in
    let b : nat_le q top ≡ true = rest.0 in
    let d : nat_lt top (q + count) ≡ true = rest.1 in
    (grind (arith, nat_tests, a), grind (arith, nat_tests, b), grind (arith, nat_tests, d))

is_in_last : (count top q : ℕ) → 1 ≤ q → q ≤ top → top < q + count → is_last count top q ≡ true
is_in_last count top q not_zero up_to_top in_span = grind (arith, nat_tests)

is_shown : (top : ℕ) (blocks : List ℕ) (q : ℕ) → set.contains (shown top blocks).taken q ≡ true → IsShown top blocks q
is_shown top blocks q is =
    let parts = both_parts (is_marked blocks q) (is_last (span_of blocks) top q) (sym (shown_is top blocks q) ∙ is) in
    let last = last_parts (span_of blocks) top q parts.1 in
    record { marked = parts.0; not_zero = last.0; up_to_top = last.1; in_span = last.2 }

shows : (top : ℕ) (blocks : List ℕ) (q : ℕ) → IsShown top blocks q → set.contains (shown top blocks).taken q ≡ true
shows top blocks q s = shown_is top blocks q ∙ both_true _ _ s.marked (is_in_last _ top q s.not_zero s.up_to_top s.in_span)

-- the window that a ring shows is sound
pub shown_sound : (top : ℕ) (blocks : List ℕ) → IsRing top blocks → IsSoundWindow (shown top blocks)
shown_sound top blocks ring =
    let spans : 1 ≤ span_of blocks = let least = ring.least in omega arith in
    record {
      spans = spans;
      not_zero = λ q is. (is_shown top blocks q is).not_zero;
      up_to_top = λ q is. (is_shown top blocks q is).up_to_top;
      in_span = λ q is. (is_shown top blocks q is).in_span;
      top_taken = λ above. shows top blocks top (record { marked = ring.top_marked above; not_zero = above; up_to_top = omega arith; in_span = omega arith });
      fits = ring.fits;
    }

last_of_none : (count : ℕ) → last_numbers count 0 ≡ []
unfolding last_numbers
last_of_none zero = refl
last_of_none (suc count) = refl

-- a ring of cleared blocks shows the window without sequence numbers
pub shown_start : (m : ℕ) → shown 0 (replicate m 0) ≡ unused_window m
shown_start m =
    let size : span_of (replicate m 0) ≡ 64 * (m - 1) = ap (λ k. 64 * (k - 1)) (length-replicate m 0) in
    let none = ap (filter (is_marked (replicate m 0))) (last_of_none (span_of (replicate m 0))) in
    λ i. record { top = 0; size = size i; taken = set.from_list (none i) }

-- ---- bits
get_or_zeros : (m i : ℕ) → ◌≡◌ {A = ℕ} (get_or (replicate m 0) i 0) 0
get_or_zeros m i =
    elim (leb_tells (suc i) m) [
      | inl (_, inside) ↦ get_or-replicate {A = ℕ} m i 0 0 inside
      | inr (_, past) ↦ get_or_past {X = ℕ} (replicate m 0) i 0 (let e = length-replicate {A = ℕ} m 0 in omega arith)
    ]

pub not_marked : (blocks : List ℕ) (q : ℕ) → get_or blocks (place_of blocks q) 0 ≡ 0 → is_marked blocks q ≡ false
unfolding is_marked
not_marked blocks q empty = ap (λ b. nat_eq (bit_at b (q % 64)) 1) empty ∙ ap (λ b. nat_eq b 1) (bit_at-zero (q % 64))

pub zeros_unmarked : (m q : ℕ) → is_marked (replicate m 0) q ≡ false
zeros_unmarked m q = not_marked (replicate m 0) q (get_or_zeros m (place_of (replicate m 0) q))

pub ring_start : (m : ℕ) → is_power m ≡ true → 2 ≤ m → m ≤ 128 → IsRing 0 (replicate m 0)
ring_start m power least most =
    let e : length (replicate m zero) ≡ m = length-replicate m 0 in
    record {
      power = subst (λ (m : ℕ). is_power m ≡ true) (sym e) power;
      least = omega arith;
      most = omega arith;
      fits = omega arith;
      top_marked = λ above. absurd (omega arith);
      none_above = λ q _ _. zeros_unmarked m q;
    }

-- where the block is the same, so is the bit
pub same_mark : (old new : List ℕ) (q : ℕ) → length new ≡ length old → get_or new (place_of old q) 0 ≡ get_or old (place_of old q) 0 → is_marked new q ≡ is_marked old q
unfolding is_marked
same_mark old new q count block = ap (λ m. nat_eq (bit_at (get_or new (q / 64 % m) 0) (q % 64)) 1) count ∙ ap (λ b. nat_eq (bit_at b (q % 64)) 1) block

marked_here : (blocks : List ℕ) (n q place bit : ℕ) → place ≡ place_of blocks n → place < length blocks → is_marked (slice_set blocks place bit) q ≡ (if nat_eq (q / 64 % length blocks) (n / 64 % length blocks) then nat_eq (bit_at bit (q % 64)) 1 else is_marked blocks q)
unfolding is_marked
marked_here blocks n q place bit is inside =
    let count : length (slice_set blocks place bit) ≡ length blocks = length-set blocks place bit in
    ap (λ m. nat_eq (bit_at (get_or (slice_set blocks place bit) (q / 64 % m) 0) (q % 64)) 1) count
    ∙ elim (eqb_tells (q / 64 % length blocks) (n / 64 % length blocks)) [
      | inl (e, same) ↦
          ap (λ b. nat_eq (bit_at b (q % 64)) 1) (get_or-set_at blocks place (q / 64 % length blocks) bit 0 (same ∙ sym is) inside)
          ∙ sym (ap (λ t. if t then nat_eq (bit_at bit (q % 64)) 1 else nat_eq (bit_at (get_or blocks (q / 64 % length blocks) 0) (q % 64)) 1) e)
      | inr (e, other) ↦
          ap (λ b. nat_eq (bit_at b (q % 64)) 1) (get_or-set_other blocks place (q / 64 % length blocks) bit 0 (λ same. other (same ∙ is)))
          ∙ sym (ap (λ t. if t then nat_eq (bit_at bit (q % 64)) 1 else nat_eq (bit_at (get_or blocks (q / 64 % length blocks) 0) (q % 64)) 1) e)
    ]

bit_after : (block n q : ℕ) → nat_eq (bit_at (bit_or block (1 * 2 ^ (n % 64) % 18446744073709551616)) (q % 64)) 1 ≡ (nat_eq (q % 64) (n % 64) || nat_eq (bit_at block (q % 64)) 1)
bit_after block n q =
    elim (eqb_tells (q % 64) (n % 64)) [
      | inl (e, same) ↦ ap (λ k. nat_eq (bit_at (bit_or block (1 * 2 ^ (n % 64) % 18446744073709551616)) k) 1) same ∙ ap (λ b. nat_eq b 1) (bit_at_set_same w64 block (n % 64) (omega arith)) ∙ ap (λ b. b || nat_eq (bit_at block (q % 64)) 1) (sym e)
      | inr (e, other) ↦ ap (λ b. nat_eq b 1) (bit_at_set_other w64 block (n % 64) (omega arith) (q % 64) other) ∙ ap (λ b. b || nat_eq (bit_at block (q % 64)) 1) (sym e)
    ]

-- setting a sequence number's bit marks it and its twins
pub set_marks : (blocks : List ℕ) (n q place : ℕ) → place ≡ place_of blocks n → place < length blocks → is_marked (slice_set blocks place (bit_or (get_or blocks place 0) (1 * 2 ^ (n % 64) % 18446744073709551616))) q ≡ (is_twin (length blocks) n q || is_marked blocks q)
unfolding is_marked
set_marks blocks n q place is inside =
    marked_here blocks n q place (bit_or (get_or blocks place 0) (1 * 2 ^ (n % 64) % 18446744073709551616)) is inside
    ∙ elim (eqb_tells (q / 64 % length blocks) (n / 64 % length blocks)) [
      | inl (e, same) ↦
          ap (λ t. if t then nat_eq (bit_at (bit_or (get_or blocks place 0) (1 * 2 ^ (n % 64) % 18446744073709551616)) (q % 64)) 1 else is_marked blocks q) e
          ∙ bit_after (get_or blocks place 0) n q
          ∙ ap (λ p. nat_eq (q % 64) (n % 64) || nat_eq (bit_at (get_or blocks p 0) (q % 64)) 1) (is ∙ sym same)
          ∙ ap (λ t. (t && nat_eq (q % 64) (n % 64)) || is_marked blocks q) (sym e)
      | inr (e, other) ↦
          ap (λ t. if t then nat_eq (bit_at (bit_or (get_or blocks place 0) (1 * 2 ^ (n % 64) % 18446744073709551616)) (q % 64)) 1 else is_marked blocks q) e
          ∙ ap (λ t. (t && nat_eq (q % 64) (n % 64)) || is_marked blocks q) (sym e)
    ]

-- ---- taking a sequence number
test_parts : (twin marked last : Bool) → ((twin || marked) && last) ≡ true → ((twin ≡ true) ⊎ (marked ≡ true)) × (last ≡ true)
test_parts true marked true is = (inl refl, refl)
test_parts true marked false is = cc
test_parts false true true is = (inr refl, refl)
test_parts false true false is = cc
test_parts false false last is = cc

either : (a b : Bool) → (a ≡ true) ⊎ (b ≡ true) → (a || b) ≡ true
either true b is = refl
either false true is = refl
either false false (inl is) = is
either false false (inr is) = is

either_parts : (a b : Bool) → (a || b) ≡ true → (a ≡ true) ⊎ (b ≡ true)
either_parts true b is = inl refl
either_parts false true is = inr refl
either_parts false false is = cc

-- what a ring is after a sequence number's bit was set
pub record IsSet (old : List ℕ) (n : ℕ) (new : List ℕ) : Type 0 where
  pub count : length new ≡ length old
  pub marked : (q : ℕ) → is_marked new q ≡ (is_twin (length old) n q || is_marked old q)

same_span : (old new : List ℕ) → length new ≡ length old → span_of new ≡ span_of old
same_span old new count = ap (λ m. 64 * (m - 1)) count

twin_of_itself : (m n : ℕ) → is_twin m n n ≡ true
twin_of_itself m n = both_true _ _ (eq-eqb (n / 64 % m) (n / 64 % m) refl) (eq-eqb (n % 64) (n % 64) refl)

no_twin_above : (m n q : ℕ) → n < q → n / 64 < q / 64 + m → q / 64 < n / 64 + m → is_twin m n q ≡ false
no_twin_above m n q above near far = twin_is_same m n q near far ∙ grind (arith, nat_tests)

neither : (a b : Bool) → a ≡ false → b ≡ false → (a || b) ≡ false
neither a b first second = cc

pub ring_inside : (top n : ℕ) (old new : List ℕ) → IsRing top old → n ≤ top → top < n + span_of old → IsSet old n new → IsRing top new
ring_inside top n old new ring below in_span is =
    let m_least = ring.least in
    let m_most = ring.most in
    let count = is.count in
    record {
      power = subst (λ (m : ℕ). is_power m ≡ true) (sym is.count) ring.power;
      least = omega arith;
      most = omega arith;
      fits = ring.fits;
      top_marked = λ above. is.marked top ∙ either _ _ (inr (ring.top_marked above));
      none_above = λ q above same.
          let near : n / 64 < q / 64 + length old = omega arith in
          let round : top / 64 < n / 64 + length old = within_a_round top n (length old) (omega arith) (omega arith) in
          let far : q / 64 < n / 64 + length old = omega arith in
          is.marked q ∙ neither _ _ (no_twin_above (length old) n q (omega arith) near far) (ring.none_above q above same);
    }

pub takes_bit_inside : (top n : ℕ) (old new : List ℕ) → IsRing top old → IsFresh (shown top old) n → n ≤ top → IsSet old n new → Takes (shown top old) n (shown top new)
takes_bit_inside top n old new ring is_fresh below is =
    let m_least = ring.least in
    let spans = same_span old new is.count in
    let not_zero = is_fresh.not_zero in
    let not_old = is_fresh.not_old in
    record {
      top = omega arith;
      size = spans;
      taken = λ q.
          same_test (set.contains (shown top new).taken q) ((nat_eq q n || set.contains (shown top old).taken q) && nat_lt top (q + span_of new))
          (λ shows_it.
          let s = is_shown top new q shows_it in
          let up = s.up_to_top in
          let lower = s.in_span in
          let near : n / 64 < q / 64 + length old = within_a_round n q (length old) (omega arith) (omega arith) in
          let far : q / 64 < n / 64 + length old = within_a_round q n (length old) (omega arith) (omega arith) in
          let parts = either_parts _ _ (sym (is.marked q) ∙ s.marked) in
          both_true _ _
          (either _ _ (elim parts [
            | inl twin ↦ inl (sym (twin_is_same (length old) n q near far) ∙ twin)
            | inr was ↦ inr (shows top old q (record { marked = was; not_zero = s.not_zero; up_to_top = up; in_span = omega arith }))
          ]))
          (grind (arith, nat_tests)))
          (λ either_way.
          let parts = test_parts (nat_eq q n) (set.contains (shown top old).taken q) _ either_way in
          elim parts.0 [
            | inl is_new ↦
                let e : q ≡ n = grind (arith, nat_tests, is_new) in
                shows top new q (record { marked = is.marked q ∙ either _ _ (inl (ap (is_twin (length old) n) e ∙ twin_of_itself (length old) n)); not_zero = omega arith; up_to_top = omega arith; in_span = omega arith })
            | inr was ↦
                let s = is_shown top old q was in
                let lower = s.in_span in
                shows top new q (record { marked = is.marked q ∙ either _ _ (inr s.marked); not_zero = s.not_zero; up_to_top = s.up_to_top; in_span = omega arith })
          ]);
    }

-- what a ring is after the blocks behind one were cleared, up to another
pub record IsCleared (old : List ℕ) (from to : ℕ) (new : List ℕ) : Type 0 where
  pub count : length new ≡ length old
  pub cleared : (block : ℕ) → from < block → block ≤ to → get_or new (block % length old) 0 ≡ 0
  pub kept : (block : ℕ) → block ≤ from → to < block + length old → get_or new (block % length old) 0 ≡ get_or old (block % length old) 0

unmarked_block : (old new : List ℕ) (q : ℕ) → length new ≡ length old → get_or new (q / 64 % length old) 0 ≡ 0 → is_marked new q ≡ false
unmarked_block old new q count empty = not_marked new q (ap (λ m. get_or new (q / 64 % m) 0) count ∙ empty)

-- the bits of the new block above the greatest sequence number, before its bit is set
pub none_above_after : (top n q : ℕ) (old cleared : List ℕ) → IsRing top old → IsCleared old (top / 64) (n / 64) cleared → top < n → n < q → q / 64 ≡ n / 64 → is_marked cleared q ≡ false
none_above_after top n q old cleared ring is above beyond same =
    let least = ring.least in
    elim (leb_tells (q / 64) (top / 64)) [
      | inl (_, below) ↦
          let one : q / 64 ≡ top / 64 = omega arith in
          same_mark old cleared q is.count (is.kept (q / 64) (omega arith) (omega arith)) ∙ ring.none_above q (omega arith) one
      | inr (_, passed) ↦ unmarked_block old cleared q is.count (is.cleared (q / 64) passed (omega arith))
    ]

-- the bits of the new span, before the new sequence number's bit is set, are those of the numbers that were
-- shown
pub shown_after : (top n q : ℕ) (old cleared : List ℕ) → IsRing top old → IsCleared old (top / 64) (n / 64) cleared → top < n → n < q + span_of old → 1 ≤ q → q ≤ n → is_marked cleared q ≡ set.contains (shown top old).taken q
shown_after top n q old cleared ring is above in_span not_zero up_to =
    let least = ring.least in
    let near : n / 64 < q / 64 + length old = within_a_round n q (length old) (omega arith) (omega arith) in
    elim (leb_tells q top) [
      | inl (_, below) ↦
          let block : q / 64 ≤ top / 64 = omega arith in
          same_mark old cleared q is.count (is.kept (q / 64) block near)
          ∙ same_test (is_marked old q) (set.contains (shown top old).taken q)
          (λ marked. shows top old q (record { marked = marked; not_zero = not_zero; up_to_top = below; in_span = omega arith }))
          (λ shows_it. (is_shown top old q shows_it).marked)
      | inr (_, beyond) ↦
          let not_shown : set.contains (shown top old).taken q ≡ false = same_test (set.contains (shown top old).taken q) false (λ shows_it. let s = is_shown top old q shows_it in let up = s.up_to_top in absurd (omega arith)) (λ no_way. cc) in
          elim (leb_tells (q / 64) (top / 64)) [
            | inl (_, block) ↦
                let one : q / 64 ≡ top / 64 = omega arith in
                same_mark old cleared q is.count (is.kept (q / 64) block near) ∙ ring.none_above q beyond one ∙ sym not_shown
            | inr (_, passed) ↦ unmarked_block old cleared q is.count (is.cleared (q / 64) passed (omega arith)) ∙ sym not_shown
          ]
    ]

pub ring_above : (top n : ℕ) (old cleared new : List ℕ) → IsRing top old → top < n → n < 2 ^ 64 → IsCleared old (top / 64) (n / 64) cleared → IsSet cleared n new → IsRing n new
ring_above top n old cleared new ring above fits is_cleared is =
    let m_least = ring.least in
    let m_most = ring.most in
    let count = is.count in
    let cleared_count = is_cleared.count in
    record {
      power = subst (λ (m : ℕ). is_power m ≡ true) (sym (is.count ∙ is_cleared.count)) ring.power;
      least = omega arith;
      most = omega arith;
      fits = fits;
      top_marked = λ _. is.marked n ∙ either _ _ (inl (twin_of_itself (length cleared) n));
      none_above = λ q beyond same. is.marked q ∙ neither _ _ (no_twin_above (length cleared) n q beyond (omega arith) (omega arith)) (none_above_after top n q old cleared ring is_cleared above beyond same);
    }

pub takes_bit_above : (top n : ℕ) (old cleared new : List ℕ) → IsRing top old → top < n → IsCleared old (top / 64) (n / 64) cleared → IsSet cleared n new → Takes (shown top old) n (shown n new)
takes_bit_above top n old cleared new ring above is_cleared is =
    let m_least = ring.least in
    let cleared_count = is_cleared.count in
    let spans : span_of new ≡ span_of old = same_span old new (is.count ∙ is_cleared.count) in
    record {
      top = omega arith;
      size = spans;
      taken = λ q.
          same_test (set.contains (shown n new).taken q) ((nat_eq q n || set.contains (shown top old).taken q) && nat_lt n (q + span_of new))
          (λ shows_it.
          let s = is_shown n new q shows_it in
          let up = s.up_to_top in
          let lower = s.in_span in
          let near : n / 64 < q / 64 + length cleared = within_a_round n q (length cleared) (omega arith) (omega arith) in
          let parts = either_parts _ _ (sym (is.marked q) ∙ s.marked) in
          both_true _ _
          (either _ _ (elim parts [
            | inl twin ↦ inl (sym (twin_is_same (length cleared) n q near (omega arith)) ∙ twin)
            | inr was ↦ inr (sym (shown_after top n q old cleared ring is_cleared above (omega arith) s.not_zero up) ∙ was)
          ]))
          (grind (arith, nat_tests)))
          (λ either_way.
          let parts = test_parts (nat_eq q n) (set.contains (shown top old).taken q) _ either_way in
          let lower_test : nat_lt n (q + span_of new) ≡ true = parts.1 in
          let lower : n < q + span_of new = grind (arith, nat_tests, lower_test) in
          elim parts.0 [
            | inl is_new ↦
                let e : q ≡ n = grind (arith, nat_tests, is_new) in
                shows n new q (record { marked = is.marked q ∙ either _ _ (inl (ap (is_twin (length cleared) n) e ∙ twin_of_itself (length cleared) n)); not_zero = omega arith; up_to_top = omega arith; in_span = lower })
            | inr was ↦
                let s = is_shown top old q was in
                let up = s.up_to_top in
                shows n new q (record { marked = is.marked q ∙ either _ _ (inr (shown_after top n q old cleared ring is_cleared above (omega arith) s.not_zero (omega arith) ∙ was)); not_zero = s.not_zero; up_to_top = omega arith; in_span = lower })
          ]);
    }

-- ---- clearing one block more
pub cleared_more : (now : List ℕ) (m place block last : ℕ) → length now ≡ m → 1 ≤ m → place ≡ (last + 1) % m → (block ≤ last → get_or now (block % m) 0 ≡ 0) → block ≤ last + 1 → get_or (slice_set now place 0) (block % m) 0 ≡ 0
cleared_more now m place block last count some is so_far up_to =
    elim (eqb_tells (block % m) place) [
      | inl (_, same) ↦ get_or-set_at now place (block % m) 0 0 same (let small = mod_below (last + 1) m some in omega arith)
      | inr (_, other) ↦
          get_or-set_other now place (block % m) 0 0 other
          ∙ elim (leb_tells block last) [
            | inl (_, before) ↦ so_far before
            | inr (_, new) ↦ (let one : block ≡ last + 1 = omega arith in absurd (other (ap (λ b. b % m) one ∙ sym is)))
          ]
    ]

pub kept_more : (now : List ℕ) (m place block last was : ℕ) → place ≡ (last + 1) % m → get_or now (block % m) 0 ≡ was → block ≤ last → last + 1 < block + m → get_or (slice_set now place 0) (block % m) 0 ≡ was
kept_more now m place block last was is so_far before after =
    get_or-set_other now place (block % m) 0 0
    (λ same. let one : block ≡ last + 1 = one_place m block (last + 1) (omega arith) after (same ∙ is) in absurd (omega arith))
    ∙ so_far

-- ---- asking
-- a sequence number in the span is judged by its bit
pub judged_by_bit : (top : ℕ) (blocks : List ℕ) (n : ℕ) (found : Bool) → 1 ≤ n → n ≤ top → top < n + span_of blocks → found ≡ is_marked blocks n → judgement (shown top blocks) n ≡ (if found then Taken else Fresh)
judged_by_bit top blocks n found not_zero up_to_top in_span is =
    judged_in_span (shown top blocks) n found not_zero in_span
    (is ∙ same_test (is_marked blocks n) (set.contains (shown top blocks).taken n)
    (λ marked. shows top blocks n (record { marked = marked; not_zero = not_zero; up_to_top = up_to_top; in_span = in_span }))
    (λ shows_it. (is_shown top blocks n shows_it).marked))
