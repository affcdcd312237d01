-- What stands by number, as a list by rising number.
use Rattle.std.proofs.Common.{◌≡◌, ◌≢◌, ◌+◌, ◌<◌, ◌≤◌, ◌∷◌, [], ◌||◌, ◌&&◌, ℕ, List, Bool, true, false, cond, MatchBool, T, Option, Some, None, arith, sym, ap, ◌∙◌, refl, inl, inr, subst}
use Rattle.std.proofs.lemmas.Bool.{eq-eqb, ne_eqb}
use Rattle.std.proofs.lemmas.Bool.Decides.{eqb_tells, leb_tells, nat_tests}
use Rattle.std.proofs.lemmas.Option.{none-some}
use Rattle.std.specs.List.{filter, list_any}
use Rattle.std.specs.Ordering.{is_lt, nat_cmp, MatchOrdering}
use Rattle.std.specs.declared.cmp.Ordering.{Ordering}
use Rattle.std.specs.declared.cmp.Ordering.TheVariants.{Less, Equal, Greater}
use Rattle.std.specs.Cmp.{unsigned_tied}
use Rattle.std.proofs.lemmas.Cmp.{ranked}
use Rattle.std.specs.FinMap.Entries as entries
use Rattle.std.specs.FinMap as map
use Rattle.requests.specs.Outgoing.{IsAbove, IsNextOutstanding, NoneOutstanding, OwnRequests, SomeOutstanding, is_above}
use Rattle.requests.specs.Outstanding.{outstanding_above}

pub above_told : (low : Option ℕ) (n : ℕ) → is_above low n ≡ true → IsAbove low n
above_told None n is = tt
above_told (Some m) n is = grind (arith, nat_tests, is)

pub above_true : (low : Option ℕ) (n : ℕ) → IsAbove low n → is_above low n ≡ true
above_true None n is = refl
above_true (Some m) n is = grind (arith, nat_tests, is)

pub above_later : (low : Option ℕ) (n q : ℕ) → IsAbove low n → n < q → IsAbove low q
above_later None n q above less = tt
above_later (Some m) n q above less = omega arith

or_true : (b c : Bool) → c ≡ true → (b || c) ≡ true
or_true true c is = refl
or_true false c is = is

first_of_both : (b c : Bool) → T (b && c) → T b
first_of_both true c both = tt
first_of_both false c both = both

second_of_both : (b c : Bool) → T (b && c) → T c
second_of_both true c both = both
second_of_both false c both = absurd both

less_ordered : (x y : ℕ) (o : Ordering) → MatchOrdering o (x < y) (x ≡ y) (y < x) → T (is_lt o) → x < y
less_ordered x y Less h is = h
less_ordered x y Equal h is = absurd is
less_ordered x y Greater h is = absurd is

less_told : (x y : ℕ) → T (is_lt (nat_cmp x y)) → x < y
less_told x y is = less_ordered x y (nat_cmp x y) (ranked x y (nat_cmp x y) refl) is

pub not_above : (low : Option ℕ) (n : ℕ) → (IsAbove low n → ⊥) → is_above low n ≡ false
not_above None n is = absurd (is tt)
not_above (Some m) n is = elim (leb_tells (m + 1) n) [ inl (_, less) ↦ absurd (is (omega arith)) | inr (_, more) ↦ (let past : n ≤ m = omega arith in grind (arith, nat_tests, past)) ]

module _ {X : Type 0} where
  -- ---- entries in order
  abbrev pub find : ℕ → List (ℕ × X) → Option X
  find n es = entries.find nat_cmp n es

  abbrev pub IsInOrder : List (ℕ × X) → Type 0
  IsInOrder es = T (entries.is_sorted nat_cmp es)

  abbrev pub AllFrom : ℕ → List (ℕ × X) → Type 0
  AllFrom n es = (k : ℕ) (x : X) → find k es ≡ Some x → n < k

  abbrev choice : Option X → Option X → Bool → Option X
  choice here there b = cond b here there

  pub found_here : (n : ℕ) (e : ℕ × X) (es : List (ℕ × X)) → e.0 ≡ n → find n (e ∷ es) ≡ Some e.1
  found_here n e es same = ap (choice (Some e.1) (find n es)) (unsigned_tied n e.0 ∙ eq-eqb n e.0 (sym same))

  pub found_further : (n : ℕ) (e : ℕ × X) (es : List (ℕ × X)) → e.0 ≢ n → find n (e ∷ es) ≡ find n es
  found_further n e es apart = ap (choice (Some e.1) (find n es)) (unsigned_tied n e.0 ∙ ne_eqb n e.0 (λ same. apart (sym same)))

  pub in_order_after : (e : ℕ × X) (es : List (ℕ × X)) → IsInOrder (e ∷ es) → IsInOrder es
  in_order_after e es order = second_of_both _ _ order

  -- each number behind the first is greater
  all_from : (n : ℕ) (es : List (ℕ × X)) → T (entries.below_all nat_cmp n es) → AllFrom n es
  all_from n [] below k x is = absurd (none-some x is)
  all_from n (e ∷ es) below k x is =
      elim (eqb_tells e.0 k) [
        | inl (_, same) ↦ subst (λ (m : ℕ). n < m) same (less_told n e.0 (first_of_both _ _ below))
        | inr (_, apart) ↦ all_from n es (second_of_both _ _ below) k x (sym (found_further k e es apart) ∙ is)
      ]

  later_numbers : (e : ℕ × X) (es : List (ℕ × X)) → IsInOrder (e ∷ es) → AllFrom e.0 es
  later_numbers e es order = all_from e.0 es (first_of_both _ _ order)

  pub found_later : (e : ℕ × X) (es : List (ℕ × X)) (k : ℕ) (x : X) → IsInOrder (e ∷ es) → find k es ≡ Some x → find k (e ∷ es) ≡ Some x
  found_later e es k x order is =
      let more = later_numbers e es order k x is in
      let apart : e.0 ≢ k = λ same. omega arith in
      found_further k e es apart ∙ is

  -- ---- a test of them
  pub found_any : (p : X → Bool) (es : List (ℕ × X)) (n : ℕ) (x : X) → find n es ≡ Some x → p x ≡ true → list_any (λ e. p e.1) es ≡ true
  found_any p [] n x is passes = absurd (none-some x is)
  found_any p (e ∷ es) n x is passes =
      elim (eqb_tells e.0 n) [
        | inl (_, same) ↦ (let one : Some e.1 ≡ Some x = sym (found_here n e es same) ∙ is in
            let its : p e.1 ≡ true = (let value : e.1 ≡ x = cc in ap p value ∙ passes) in
            ap (λ b. b || list_any (λ e. p e.1) es) its)
        | inr (_, apart) ↦ or_true (p e.1) _ (found_any p es n x (sym (found_further n e es apart) ∙ is) passes)
      ]

  pub found_none : (p : X → Bool) (es : List (ℕ × X)) → IsInOrder es → ((n : ℕ) (x : X) → find n es ≡ Some x → p x ≡ false) → list_any (λ e. p e.1) es ≡ false
  found_none p [] order fails = refl
  found_none p (e ∷ es) order fails =
      ap (λ b. b || list_any (λ e. p e.1) es) (fails e.0 e.1 (found_here e.0 e es refl))
      ∙ found_none p es (in_order_after e es order) (λ n x is. fails n x (found_later e es n x order is))

  pub record Passing (p : X → Bool) (es : List (ℕ × X)) : Type 0 where
    pub number : ℕ
    pub value : X
    pub there : find number es ≡ Some value
    pub passes : p value ≡ true

  found_by : (p : X → Bool) (e : ℕ × X) (es : List (ℕ × X)) (b : Bool) → IsInOrder (e ∷ es) → p e.1 ≡ b → (list_any (λ x. p x.1) es ≡ true → Passing p es)
      → (b || list_any (λ x. p x.1) es) ≡ true → Passing p (e ∷ es)
  found_by p e es true order passes more is = record { number = e.0; value = e.1; there = found_here e.0 e es refl; passes = passes }
  found_by p e es false order fails more is =
      let rest = more is in
      record { number = rest.number; value = rest.value; there = found_later e es rest.number rest.value order rest.there; passes = rest.passes }

  pub any_found : (p : X → Bool) (es : List (ℕ × X)) → IsInOrder es → list_any (λ x. p x.1) es ≡ true → Passing p es
  any_found p [] order is = absurd cc
  any_found p (e ∷ es) order is = found_by p e es (p e.1) order refl (any_found p es (in_order_after e es order)) is

  -- ---- those above a number
  abbrev pub above : Option ℕ → List (ℕ × X) → List (ℕ × X)
  above low es = filter (λ e. is_above low e.0) es

  abbrev taken : ℕ × X → List (ℕ × X) → Bool → List (ℕ × X)
  taken e es b = cond b (e ∷ es) es

  pub above_none : (es : List (ℕ × X)) → above None es ≡ es
  above_none [] = refl
  above_none (e ∷ es) = ap (λ rest. e ∷ rest) (above_none es)

  all_above : (low : Option ℕ) (es : List (ℕ × X)) → IsInOrder es → ((k : ℕ) (x : X) → find k es ≡ Some x → IsAbove low k) → above low es ≡ es
  all_above low [] order is = refl
  all_above low (e ∷ es) order is =
      ap (taken e (above low es)) (above_true low e.0 (is e.0 e.1 (found_here e.0 e es refl)))
      ∙ ap (λ rest. e ∷ rest) (all_above low es (in_order_after e es order) (λ k x there. is k x (found_later e es k x order there)))

  pub none_above : (low : Option ℕ) (es : List (ℕ × X)) → IsInOrder es → ((k : ℕ) (x : X) → find k es ≡ Some x → IsAbove low k → ⊥) → above low es ≡ []
  none_above low [] order is = refl
  none_above low (e ∷ es) order is =
      ap (taken e (above low es)) (not_above low e.0 (is e.0 e.1 (found_here e.0 e es refl)))
      ∙ none_above low es (in_order_after e es order) (λ k x there. is k x (found_later e es k x order there))

  -- the next one, and those above it
  pub next_above : (low : Option ℕ) (es : List (ℕ × X)) (n : ℕ) (x : X) → IsInOrder es → find n es ≡ Some x → IsAbove low n
      → ((k : ℕ) (y : X) → find k es ≡ Some y → IsAbove low k → k < n → ⊥) → above low es ≡ (n, x) ∷ above (Some n) es
  next_above low [] n x order there is least = absurd (none-some x there)
  next_above low (e ∷ es) n x order there is least =
      elim (eqb_tells e.0 n) [
        | inl (_, same) ↦
            (let one : Some e.1 ≡ Some x = sym (found_here n e es same) ∙ there in
            let value : e.1 ≡ x = cc in
            let inner = in_order_after e es order in
            let later = later_numbers e es order in
            let its : IsAbove low e.0 = subst (IsAbove low) (sym same) is in
            let here = ap (taken e (above low es)) (above_true low e.0 its) in
            let all = all_above low es inner (λ k y found. above_later low e.0 k its (later k y found)) in
            let rest = all_above (Some n) es inner (λ k y found. subst (λ (m : ℕ). m < k) same (later k y found)) in
            let skipped = ap (taken e (above (Some n) es)) (not_above (Some n) e.0 (λ less. omega arith)) in
            here ∙ ap (λ tail. e ∷ tail) (all ∙ sym rest) ∙ (λ i. (same i, value i) ∷ sym skipped i))
        | inr (_, apart) ↦
            (let further : find n es ≡ Some x = sym (found_further n e es apart) ∙ there in
            let less : e.0 < n = later_numbers e es order n x further in
            let passed = ap (taken e (above low es)) (not_above low e.0 (λ its. least e.0 e.1 (found_here e.0 e es refl) its less)) in
            let skipped = ap (taken e (above (Some n) es)) (not_above (Some n) e.0 (λ more. omega arith)) in
            passed ∙ next_above low es n x (in_order_after e es order) further is (λ k y found. least k y (found_later e es k y order found)) ∙ ap (λ tail. (n, x) ∷ tail) (sym skipped))
      ]

-- what a test answers of some of them, and of none
pub any_told : {X : Type 0} (p : X → Bool) (m : map.FinMap nat_cmp X) (Answers : X → Bool → Type 0) → ((x : X) (b : Bool) → Answers x b → b ≡ p x) → (result : Bool)
    → MatchBool result (SomeOutstanding m Answers) (NoneOutstanding m Answers) → result ≡ list_any (λ e. p e.1) (map.entries m)
any_told p m Answers says true is = sym (found_any p (map.entries m) is.number is.request (sym (map.get-entries m is.number) ∙ is.there) (sym (says is.request true is.passes)))
any_told p m Answers says false is =
    sym (found_none p (map.entries m) (map.entries_sorted m) (λ n x there. sym (says x false (is n x (map.get-entries m n ∙ there)))))

-- what fails each test that is found
pub filtered_none : {X : Type 0} (p : X → Bool) (es : List (ℕ × X)) → IsInOrder es → ((n : ℕ) (x : X) → find n es ≡ Some x → p x ≡ false) → filter (λ e. p e.1) es ≡ []
filtered_none p [] order fails = refl
filtered_none p (e ∷ es) order fails =
    ap (λ b. cond b (e ∷ filter (λ e. p e.1) es) (filter (λ e. p e.1) es)) (fails e.0 e.1 (found_here e.0 e es refl))
    ∙ filtered_none p es (in_order_after e es order) (λ n x is. fails n x (found_later e es n x order is))

-- ---- the outstanding requests

found_least : {X : Type 0} (low : Option ℕ) (r : OwnRequests X) (n : ℕ) (x : X) → IsNextOutstanding r low n x → (k : ℕ) (y : X) → find k (map.entries r.outstanding) ≡ Some y → IsAbove low k → k < n → ⊥
found_least low r n x next k y there above less = none-some y (sym (next.least k above less) ∙ map.get-entries r.outstanding k ∙ there)

-- those above a number are the next one and those above that
pub next_of : {X : Type 0} (low : Option ℕ) (r : OwnRequests X) (n : ℕ) (x : X) → IsNextOutstanding r low n x → outstanding_above r low ≡ (n, x) ∷ outstanding_above r (Some n)
next_of low r n x next =
    next_above low (map.entries r.outstanding) n x (map.entries_sorted r.outstanding) (sym (map.get-entries r.outstanding n) ∙ next.there) next.above (found_least low r n x next)

pub all_gone : {X : Type 0} (low : Option ℕ) (r : OwnRequests X) → ((k : ℕ) → IsAbove low k → map.get r.outstanding k ≡ None) → outstanding_above r low ≡ []
all_gone low r none = none_above low (map.entries r.outstanding) (map.entries_sorted r.outstanding) (λ k y there above. none-some y (sym (none k above) ∙ map.get-entries r.outstanding k ∙ there))
