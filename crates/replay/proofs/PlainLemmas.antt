-- A window that keeps its sequence numbers in a list.
use Rattle.std.specs.Prelude.{◌≡◌, ℕ, ◌+◌, ◌-◌, ◌<◌, ◌≤◌, Bool, true, false, List, [], ◌∷◌, ◌++◌, ◌&&◌, ◌||◌, cond, if◌then◌else◌, nat_eq, nat_lt, refl}
use Rattle.std.specs.List.{list_any, filter, AllByRecursion, IsDistinct}
use Rattle.std.specs.FinSet as set
use Rattle.std.specs.Ordering.{nat_cmp}
use Rattle.std.specs.Cmp.{nat_eq_equiv}
use Rattle.std.proofs.Common.{arith, sym, ◌∙◌, ap}
use Rattle.std.proofs.lemmas.Bool.Decides.{nat_tests}
use Rattle.std.proofs.lemmas.List.Folds.{list_any-append}
use Rattle.std.proofs.lemmas.Map.Views.{any-filter_same}
use Rattle.std.proofs.lemmas.Map.Keys.{IsDistinct-push, IsDistinct-head, IsDistinct-tail, IsDistinct-cons}
use Rattle.replay.specs.declared.window.Judgement.TheVariants.{Taken, Fresh}
use Rattle.replay.specs.Window.{IsSoundWindow, listed, judgement, Takes}
use Rattle.replay.proofs.WindowFacts.{IsFresh}
use Rattle.replay.proofs.JudgementLemmas.{judged_in_span}

nothing_taken : {P : Type 0} (q : ℕ) → set.contains {R = nat_cmp} set.empty q ≡ true → P
nothing_taken q is = let none = set.contains-empty nat_cmp q in cc

pub sound_start : (size : ℕ) → 1 ≤ size → IsSoundWindow (listed 0 size [])
sound_start size spans =
    record {
      spans = spans;
      not_zero = λ n. nothing_taken n;
      up_to_top = λ n. nothing_taken n;
      in_span = λ n. nothing_taken n;
      top_taken = λ above. absurd (omega arith);
      fits = omega arith;
    }

-- a sequence number in the span or above it is judged by looking for it in the list
pub judged_by_list : (top size n : ℕ) (numbers : List ℕ) (found : Bool) → 1 ≤ n → top < n + size → found ≡ list_any (λ y. nat_eq y n) numbers → judgement (listed top size numbers) n ≡ (if found then Taken else Fresh)
judged_by_list top size n numbers found not_zero not_old is = judged_in_span (listed top size numbers) n found not_zero not_old (is ∙ sym (set.contains-from_list_nat numbers n))

swapped : (found here there : Bool) → here ≡ there → (found || (here || false)) ≡ (there || found)
swapped true true there same = cc
swapped true false there same = cc
swapped false true there same = cc
swapped false false there same = cc

-- what a list finds after one more sequence number was put at its end
any_push : (numbers : List ℕ) (n q : ℕ) → list_any (λ y. nat_eq y q) (numbers ++ n ∷ []) ≡ (nat_eq q n || set.contains (set.from_list {R = nat_cmp} numbers) q)
any_push numbers n q =
    list_any-append (λ y. nat_eq y q) numbers (n ∷ [])
    ∙ swapped _ _ _ (nat_eq_equiv.symm n q)
    ∙ ap (λ b. nat_eq q n || b) (sym (set.contains-from_list_nat numbers q))

inside_span : (is_new was_taken in_span : Bool) → (is_new ≡ true → in_span ≡ true) → (was_taken ≡ true → in_span ≡ true) → (is_new || was_taken) ≡ ((is_new || was_taken) && in_span)
inside_span true was_taken in_span new old = sym (new refl)
inside_span false true in_span new old = sym (old refl)
inside_span false false in_span new old = refl

pub takes_inside : (top size n : ℕ) (numbers : List ℕ) → IsSoundWindow (listed top size numbers) → IsFresh (listed top size numbers) n → n ≤ top → Takes (listed top size numbers) n (listed top size (numbers ++ n ∷ []))
takes_inside top size n numbers sound is_fresh below =
    record {
      top = omega arith;
      size = refl;
      taken = λ q.
          set.contains-from_list_nat (numbers ++ n ∷ []) q ∙ any_push numbers n q
          ∙ inside_span _ _ _
          (λ is_new. let above = is_fresh.not_old in grind (arith, nat_tests, is_new))
          (λ was. let above = sound.in_span q was in grind (arith, nat_tests));
    }

and_swap : (a b : Bool) → (a && b) ≡ (b && a)
and_swap true true = refl
and_swap true false = refl
and_swap false true = refl
and_swap false false = refl

span_by_sum : (top n size : ℕ) → 1 ≤ size → nat_lt (top - n) size ≡ nat_lt top (n + size)
span_by_sum top n size spans = grind (arith, nat_tests)

pub takes_above : (top size n : ℕ) (numbers : List ℕ) → IsSoundWindow (listed top size numbers) → top < n → Takes (listed top size numbers) n (listed n size (filter (λ y. nat_lt (n - y) size) (numbers ++ n ∷ [])))
takes_above top size n numbers sound above =
    record {
      top = omega arith;
      size = refl;
      taken = λ q.
          set.contains-from_list_nat _ q
          ∙ any-filter_same (λ y. nat_eq y q) (λ y. nat_lt (n - y) size) (nat_lt (n - q) size)
          (λ y is. let e : y ≡ q = grind (arith, nat_tests, is) in ap (λ x. nat_lt (n - x) size) e) (numbers ++ n ∷ [])
          ∙ and_swap (nat_lt (n - q) size) _
          ∙ ap (λ b. b && nat_lt (n - q) size) (any_push numbers n q)
          ∙ ap (λ b. (nat_eq q n || set.contains (set.from_list {R = nat_cmp} numbers) q) && b) (span_by_sum n q size sound.spans);
    }

pub none_twice : IsDistinct {K = ℕ} nat_eq []
unfolding IsDistinct
none_twice = tt

pub once_more : (numbers : List ℕ) (n : ℕ) → IsDistinct nat_eq numbers → set.contains (set.from_list {R = nat_cmp} numbers) n ≡ false → IsDistinct nat_eq (numbers ++ n ∷ [])
once_more numbers n each_once not_taken =
    IsDistinct-push nat_eq_equiv numbers n each_once
    ((λ i. list_any (λ y. nat_eq_equiv.symm n y i) numbers) ∙ sym (set.contains-from_list_nat numbers n) ∙ not_taken)

all_kept : (P : ℕ → Type 0) (p : ℕ → Bool) (numbers : List ℕ) → AllByRecursion P numbers → AllByRecursion P (filter p numbers)
all_kept P p [] all = tt
all_kept P p (x ∷ xs) all =
    elim (p x) as (λ b. AllByRecursion P (cond b (x ∷ filter p xs) (filter p xs))) [
      | true ↦ (all.0, all_kept P p xs all.1)
      | false ↦ all_kept P p xs all.1
    ]

pub once_kept : (p : ℕ → Bool) (numbers : List ℕ) → IsDistinct nat_eq numbers → IsDistinct nat_eq (filter p numbers)
once_kept p [] each_once = each_once
once_kept p (x ∷ xs) each_once =
    let rest = once_kept p xs (IsDistinct-tail nat_eq x xs each_once) in
    elim (p x) as (λ b. IsDistinct nat_eq (cond b (x ∷ filter p xs) (filter p xs))) [
      | true ↦ IsDistinct-cons nat_eq x (filter p xs) (all_kept (λ y. nat_eq x y ≡ false) p xs (IsDistinct-head nat_eq x xs each_once)) rest
      | false ↦ rest
    ]
