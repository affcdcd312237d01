-- The first entry of a map that passes a test: the one of the least number.
use Rattle.std.proofs.Common.{◌≡◌, ◌≢◌, ◌<◌, ◌∷◌, [], ◌&&◌, ℕ, List, Bool, true, false, cond, T, Option, Some, None, arith, sym, ap, ◌∙◌, refl, inl, inr, subst}
use Rattle.std.proofs.lemmas.Bool.{eq-eqb, ne_eqb}
use Rattle.std.proofs.lemmas.Bool.Decides.{eqb_tells}
use Rattle.std.proofs.lemmas.Cmp.{ranked}
use Rattle.std.proofs.lemmas.Option.{none-some, same_Some}
use Rattle.std.specs.Cmp.{unsigned_tied}
use Rattle.std.specs.FinMap as map
use Rattle.std.specs.FinMap.Entries as entries
use Rattle.std.specs.List.{find}
use Rattle.std.specs.Ordering.{is_lt, nat_cmp, MatchOrdering}
use Rattle.std.specs.declared.cmp.Ordering.{Ordering}
use Rattle.std.specs.declared.cmp.Ordering.TheVariants.{Less, Equal, Greater}

first_of_both : (b c : Bool) → T (b && c) → T b
first_of_both true c both = tt
first_of_both false c both = both

second_of_both : (b c : Bool) → T (b && c) → T c
second_of_both true c both = both
second_of_both false c both = absurd both

less_ordered : (x y : ℕ) (o : Ordering) → MatchOrdering o (x < y) (x ≡ y) (y < x) → T (is_lt o) → x < y
less_ordered x y Less h is = h
less_ordered x y Equal h is = absurd is
less_ordered x y Greater h is = absurd is

less_told : (x y : ℕ) → T (is_lt (nat_cmp x y)) → x < y
less_told x y is = less_ordered x y (nat_cmp x y) (ranked x y (nat_cmp x y) refl) is

-- the entry stands under its number and passes, and none under a lesser number does
pub record IsFirst {X : Type 0} (p : X → Bool) (get : ℕ → Option X) (e : ℕ × X) : Type 0 where
  pub there : get e.0 ≡ Some e.1
  pub passes : p e.1 ≡ true
  pub least : (k : ℕ) (x : X) → k < e.0 → get k ≡ Some x → p x ≡ false

module _ {X : Type 0} where
  abbrev choice : Option X → Option X → Bool → Option X
  choice here there b = cond b here there

  abbrev at : List (ℕ × X) → ℕ → Option X
  at es n = entries.find nat_cmp n es

  abbrev IsInOrder : List (ℕ × X) → Type 0
  IsInOrder es = T (entries.is_sorted nat_cmp es)

  found_here : (n : ℕ) (e : ℕ × X) (es : List (ℕ × X)) → e.0 ≡ n → at (e ∷ es) n ≡ Some e.1
  found_here n e es same = ap (choice (Some e.1) (at es n)) (unsigned_tied n e.0 ∙ eq-eqb n e.0 (sym same))

  found_further : (n : ℕ) (e : ℕ × X) (es : List (ℕ × X)) → e.0 ≢ n → at (e ∷ es) n ≡ at es n
  found_further n e es apart = ap (choice (Some e.1) (at es n)) (unsigned_tied n e.0 ∙ ne_eqb n e.0 (λ same. apart (sym same)))

  -- each number behind the first is greater
  all_above : (n : ℕ) (es : List (ℕ × X)) → T (entries.below_all nat_cmp n es) → (k : ℕ) (x : X) → at es k ≡ Some x → n < k
  all_above n [] below k x is = absurd (none-some x is)
  all_above n (e ∷ es) below k x is =
      elim (eqb_tells e.0 k) [
        | inl (_, same) ↦ subst (λ (m : ℕ). n < m) same (less_told n e.0 (first_of_both _ _ below))
        | inr (_, apart) ↦ all_above n es (second_of_both _ _ below) k x (sym (found_further k e es apart) ∙ is)
      ]

  later_above : (e : ℕ × X) (es : List (ℕ × X)) → IsInOrder (e ∷ es) → (k : ℕ) (x : X) → at es k ≡ Some x → e.0 < k
  later_above e es order = all_above e.0 es (first_of_both _ _ order)

  found_later : (e : ℕ × X) (es : List (ℕ × X)) (k : ℕ) (x : X) → IsInOrder (e ∷ es) → at es k ≡ Some x → at (e ∷ es) k ≡ Some x
  found_later e es k x order is =
      let more = later_above e es order k x is in
      let apart : e.0 ≢ k = λ same. omega arith in
      found_further k e es apart ∙ is

  -- the one that stands under the number of the first
  fails_too : (p : X → Bool) (d : ℕ × X) (es : List (ℕ × X)) (k : ℕ) (x : X) → p d.1 ≡ false → d.0 ≡ k → at (d ∷ es) k ≡ Some x → p x ≡ false
  fails_too p d es k x fails same is =
      let one : d.1 ≡ x = same_Some d.1 x (sym (found_here k d es same) ∙ is) in
      subst (λ y. p y ≡ false) one fails

  first_passes : (p : X → Bool) (d : ℕ × X) (es : List (ℕ × X)) → IsInOrder (d ∷ es) → p d.1 ≡ true → IsFirst p (at (d ∷ es)) d
  first_passes p d es order passes = record {
    there = found_here d.0 d es refl;
    passes = passes;
    least = λ k x less is.
        let apart : d.0 ≢ k = λ same. omega arith in
        let more = later_above d es order k x (sym (found_further k d es apart) ∙ is) in
        absurd (omega arith);
  }

  later_passes : (p : X → Bool) (d e : ℕ × X) (es : List (ℕ × X)) → IsInOrder (d ∷ es) → p d.1 ≡ false → IsFirst p (at es) e → IsFirst p (at (d ∷ es)) e
  later_passes p d e es order fails later = record {
    there = found_later d es e.0 e.1 order later.there;
    passes = later.passes;
    least = λ k x less is. elim (eqb_tells d.0 k) [
      | inl (_, same) ↦ fails_too p d es k x fails same is
      | inr (_, apart) ↦ later.least k x less (sym (found_further k d es apart) ∙ is)
    ];
  }

  found_first : (p : X → Bool) (es : List (ℕ × X)) (e : ℕ × X) → IsInOrder es → find (λ (d : ℕ × X). p d.1) es ≡ Some e → IsFirst p (at es) e
  found_first p [] e order is = absurd (none-some e is)
  found_first p (d ∷ es) e order is =
      elim (p d.1) as (λ b. p d.1 ≡ b → cond b (Some d) (find (λ (c : ℕ × X). p c.1) es) ≡ Some e → IsFirst p (at (d ∷ es)) e) [
        | true ↦ λ passes same. subst (IsFirst p (at (d ∷ es))) (same_Some d e same) (first_passes p d es order passes)
        | false ↦ λ fails later. later_passes p d e es order fails (found_first p es e (second_of_both _ _ order) later)
      ] refl is

  found_none : (p : X → Bool) (es : List (ℕ × X)) → find (λ (d : ℕ × X). p d.1) es ≡ None → (k : ℕ) (x : X) → at es k ≡ Some x → p x ≡ false
  found_none p [] is k x here = absurd (none-some x here)
  found_none p (d ∷ es) is k x here =
      elim (p d.1) as (λ b. p d.1 ≡ b → cond b (Some d) (find (λ (c : ℕ × X). p c.1) es) ≡ None → p x ≡ false) [
        | true ↦ λ passes same. absurd (none-some d (sym same))
        | false ↦ λ fails none. elim (eqb_tells d.0 k) [
          | inl (_, same) ↦ fails_too p d es k x fails same here
          | inr (_, apart) ↦ found_none p es none k x (sym (found_further k d es apart) ∙ here)
        ]
      ] refl is

  -- the same of a map
  pub first_entry : (m : map.FinMap nat_cmp X) (p : X → Bool) (e : ℕ × X) → find (λ (d : ℕ × X). p d.1) (map.entries m) ≡ Some e → IsFirst p (map.get m) e
  first_entry m p e is =
      let first = found_first p (map.entries m) e (map.entries_sorted m) is in
      record {
        there = map.get-entries m e.0 ∙ first.there;
        passes = first.passes;
        least = λ k x less here. first.least k x less (sym (map.get-entries m k) ∙ here);
      }

  pub no_entry : (m : map.FinMap nat_cmp X) (p : X → Bool) → find (λ (d : ℕ × X). p d.1) (map.entries m) ≡ None → (k : ℕ) (x : X) → map.get m k ≡ Some x → p x ≡ false
  no_entry m p is k x here = found_none p (map.entries m) is k x (sym (map.get-entries m k) ∙ here)
