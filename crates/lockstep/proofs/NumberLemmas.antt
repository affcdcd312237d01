-- Sets of numbers, their gaps, and what is put at a number.
use Rattle.std.proofs.Common.{◌≡◌, ◌≢◌, ◌||◌, ◌⊎◌, ◌+◌, ◌<◌, ◌≤◌, ℕ, zero, suc, true, false, cond, Option, Some, None, ap, refl, sym, ◌∙◌, arith, inl, inr}
use Rattle.std.specs.Prelude.{if◌then◌else◌}
use Rattle.std.specs.Cmp.{nat_cmp_total, unsigned_tied}
use Rattle.std.specs.FinMap as map
use Rattle.std.specs.FinSet as set
use Rattle.std.specs.Ordering.{nat_cmp}
use Rattle.std.proofs.lemmas.Bool.{true≢false}
use Rattle.std.proofs.lemmas.Bool.Decides.{eqb_tells, leb_tells}
use Rattle.base.specs.Octets.{Octets}
use Rattle.requests.specs.Numbers.{HasNumber, IsGap, LacksNumber, NumberSet}
use Rattle.effects.specs.Moves.{put}

pub not_both : (s : NumberSet) (n : ℕ) → HasNumber s n → LacksNumber s n → ⊥
not_both s n has lacks = true≢false (sym has ∙ lacks)

pub in_or_out : (s : NumberSet) (n : ℕ) → (HasNumber s n) ⊎ (LacksNumber s n)
in_or_out s n = elim (set.contains s n) as (λ b. (b ≡ true) ⊎ (b ≡ false)) [ true ↦ inl refl | false ↦ inr refl ]

pub none_in_empty : (n : ℕ) → LacksNumber set.empty n
none_in_empty n = set.contains-empty _ n

pub member_here : (s : NumberSet) (k n : ℕ) → n ≡ k → HasNumber (set.insert s k) n
member_here s k n same = elim (eqb_tells n k) [
  | inl (one, is) ↦ set.contains-insert nat_cmp_total s k n ∙ ap (λ b. b || set.contains s n) (unsigned_tied n k ∙ one)
  | inr (none, apart) ↦ absurd (apart same)
]

pub member_apart : (s : NumberSet) (k n : ℕ) → n ≢ k → set.contains (set.insert s k) n ≡ set.contains s n
member_apart s k n apart = elim (eqb_tells n k) [
  | inl (one, is) ↦ absurd (apart is)
  | inr (none, other) ↦ set.contains-insert nat_cmp_total s k n ∙ ap (λ b. b || set.contains s n) (unsigned_tied n k ∙ none)
]

pub still_member : (s : NumberSet) (k n : ℕ) → HasNumber s n → HasNumber (set.insert s k) n
still_member s k n has = elim (eqb_tells n k) [
  | inl (one, same) ↦ member_here s k n same
  | inr (none, apart) ↦ member_apart s k n apart ∙ has
]

-- what is in the set is the number that was put in, or was there
pub member_was : (s : NumberSet) (k n : ℕ) → HasNumber (set.insert s k) n → (n ≡ k) ⊎ (HasNumber s n)
member_was s k n has = elim (eqb_tells n k) [
  | inl (one, same) ↦ inl same
  | inr (none, apart) ↦ inr (sym (member_apart s k n apart) ∙ has)
]

-- ---- gaps

pub one_gap : (s : NumberSet) (a b : ℕ) → IsGap s a → IsGap s b → a ≡ b
one_gap s a b first second = elim (leb_tells a b) [
  | inl (_, upward) ↦ elim (leb_tells b a) [
    | inl (_, downward) ↦ omega arith
    | inr (_, less) ↦ absurd (not_both s a (second.below a less) first.missing)
  ]
  | inr (_, less) ↦ absurd (not_both s b (first.below b less) second.missing)
]

-- a number that is not in the set lies at the gap or above it
pub above_gap : (s : NumberSet) (gap n : ℕ) → IsGap s gap → LacksNumber s n → gap ≤ n
above_gap s gap n is lacks = elim (leb_tells gap n) [
  | inl (_, upward) ↦ upward
  | inr (_, less) ↦ absurd (not_both s n (is.below n less) lacks)
]

pub record FoundGap (s : NumberSet) (from until : ℕ) : Type 0 where
  pub gap : ℕ
  pub is_gap : IsGap s gap
  pub least : from ≤ gap
  pub most : gap ≤ until

one_more_below : (s : NumberSet) (from : ℕ) → HasNumber s from → ((n : ℕ) → n < from → HasNumber s n) → (n : ℕ) → n < from + 1 → HasNumber s n
one_more_below s from has below n less = elim (eqb_tells n from) [
  | inl (_, same) ↦ ap (set.contains s) same ∙ has
  | inr (_, apart) ↦ below n (omega (arith, less, apart))
]

-- from a number below which all are in the set up to one that is not
pub find_gap : (s : NumberSet) (left from until : ℕ) → until ≡ from + left → ((n : ℕ) → n < from → HasNumber s n) → LacksNumber s until → FoundGap s from until
find_gap s zero from until is below lacks =
    let here : until ≡ from = omega arith in
    record { gap = from; is_gap = record { missing = ap (set.contains s) (sym here) ∙ lacks; below = below }; least = omega arith; most = omega arith }
find_gap s (suc left) from until is below lacks = elim (in_or_out s from) [
  | inl has ↦
      (let rest : FoundGap s (from + 1) until = find_gap s left (from + 1) until (omega arith) (one_more_below s from has below) lacks in
      record { gap = rest.gap; is_gap = rest.is_gap; least = omega (arith, rest.least); most = rest.most })
  | inr lacks_here ↦ record { gap = from; is_gap = record { missing = lacks_here; below = below }; least = omega arith; most = omega arith }
]

-- ---- what waits, and what is kept

pub some_none : {T : Type 0} (x : T) → None ≡ Some x → ⊥
some_none x is = cc

pub one_some : {T : Type 0} (x y : T) → Some x ≡ Some y → x ≡ y
one_some x y is = cc

-- what waits at a number is what was put there, or waited before
pub put_was : (outstanding : ℕ → Option Octets) (k : ℕ) (value : Option Octets) (n : ℕ) (octets : Octets) → put outstanding k value n ≡ Some octets
    → ((n ≡ k) × (value ≡ Some octets)) ⊎ (outstanding n ≡ Some octets)
put_was outstanding k value n octets is = elim (eqb_tells n k) [
  | inl (one, same) ↦ inl (same, sym (ap (λ b. if b then value else outstanding n) one) ∙ is)
  | inr (none, apart) ↦ inr (sym (ap (λ b. if b then value else outstanding n) none) ∙ is)
]

pub kept_was : (kept : map.FinMap nat_cmp Octets) (k : ℕ) (reply : Octets) (n : ℕ) (octets : Octets) → map.get (map.insert kept k reply) n ≡ Some octets
    → ((n ≡ k) × (reply ≡ octets)) ⊎ (map.get kept n ≡ Some octets)
kept_was kept k reply n octets is = elim (eqb_tells n k) [
  | inl (one, same) ↦
      inl (same, one_some reply octets (sym (map.get-insert nat_cmp_total kept k reply n ∙ ap (λ b. cond b (Some reply) (map.get kept n)) (unsigned_tied n k ∙ one)) ∙ is))
  | inr (none, apart) ↦ inr (sym (map.get-insert nat_cmp_total kept k reply n ∙ ap (λ b. cond b (Some reply) (map.get kept n)) (unsigned_tied n k ∙ none)) ∙ is)
]

pub put_here : (outstanding : ℕ → Option Octets) (k : ℕ) (value : Option Octets) → put outstanding k value k ≡ value
put_here outstanding k value = elim (eqb_tells k k) [
  | inl (one, same) ↦ ap (λ b. if b then value else outstanding k) one
  | inr (none, apart) ↦ absurd (apart refl)
]

pub kept_here : (kept : map.FinMap nat_cmp Octets) (k : ℕ) (reply : Octets) → map.get (map.insert kept k reply) k ≡ Some reply
kept_here kept k reply = elim (eqb_tells k k) [
  | inl (one, same) ↦ map.get-insert nat_cmp_total kept k reply k ∙ ap (λ b. cond b (Some reply) (map.get kept k)) (unsigned_tied k k ∙ one)
  | inr (none, apart) ↦ absurd (apart refl)
]
