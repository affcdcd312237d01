-- How many numbers or items there are at most.
use Rattle.std.proofs.Common.{◌≡◌, ◌≢◌, ◌+◌, ◌-◌, ◌<◌, ◌≤◌, ◌⊎◌, ℕ, zero, suc, Bool, true, false, cond, Option, Some, None, IsSome, is_some, arith, sym, ap, ◌∙◌, refl, inl, inr}
use Rattle.std.proofs.lemmas.Bool.{true≢false, eq-eqb, ne_eqb}
use Rattle.std.proofs.lemmas.Bool.Decides.{eqb_tells}
use Rattle.std.specs.Cmp.{nat_cmp_total, unsigned_tied}
use Rattle.std.specs.Ordering.{nat_cmp}
use Rattle.std.specs.FinMap as map
use Rattle.std.specs.FinSet as set
use Rattle.std.specs.Prelude.{not, ◌&&◌}
use Rattle.requests.specs.Numbers.{NumberSet, HasNumber, LacksNumber, IsGap}
use Rattle.requests.proofs.SetLemmas.{in_or_out, none_in_empty, same_set}
use Rattle.requests.proofs.EntryLemmas.{removed_here, removed_apart, same_map}

none_is_none : {X : Type 0} (o : Option X) → (IsSome o → ⊥) → o ≡ None
none_is_none None not = refl
none_is_none (Some x) not = absurd (not refl)

pub some_or_none : {X : Type 0} (o : Option X) → (IsSome o) ⊎ (o ≡ None)
some_or_none None = inr refl
some_or_none (Some x) = inl refl

one_more : (b : Bool) (n less : ℕ) → less ≡ cond b (n - 1) n → n ≤ less + 1
one_more true n less is = omega arith
one_more false n less is = omega arith

-- a number at which a set has none is none of what is left when it is taken out
left_apart : (s : NumberSet) (k q : ℕ) → HasNumber (set.remove s k) q → (q ≢ k) × HasNumber s q
left_apart s k q has =
    elim (eqb_tells q k) [
      | inl (_, same) ↦ absurd (true≢false (sym has ∙ set.contains-remove nat_cmp_total s k q ∙ ap (λ b. not b && set.contains s q) (unsigned_tied q k ∙ eq-eqb q k same)))
      | inr (_, apart) ↦ (apart, sym (set.contains-remove nat_cmp_total s k q ∙ ap (λ b. not b && set.contains s q) (unsigned_tied q k ∙ ne_eqb q k apart)) ∙ has)
    ]

lacks_if_not : (s : NumberSet) (q : ℕ) → (HasNumber s q → ⊥) → LacksNumber s q
lacks_if_not s q not = elim (in_or_out s q) [ inl has ↦ absurd (not has) | inr lacks ↦ lacks ]

-- a set within a span has no more members than that
pub few_numbers : (size low : ℕ) (s : NumberSet) → ((q : ℕ) → HasNumber s q → (low ≤ q) × (q < low + size)) → set.len s ≤ size
few_numbers zero low s within =
    let none : s ≡ set.empty = same_set s set.empty (λ q. lacks_if_not s q (λ has. let is = within q has in let above = is.0 in let below = is.1 in omega arith) ∙ sym (none_in_empty q)) in
    let len : set.len s ≡ 0 = ap set.len none ∙ set.len-empty nat_cmp in
    omega arith
few_numbers (suc size) low s within =
    let rest = few_numbers size low (set.remove s (low + size)) (λ q has.
    let left = left_apart s (low + size) q has in
    let is = within q left.1 in
    let apart : q ≢ low + size = left.0 in
    let above = is.0 in
    let below = is.1 in
    (above, omega arith)) in
    let more = one_more (set.contains s (low + size)) (set.len s) (set.len (set.remove s (low + size))) (set.len-remove nat_cmp_total s (low + size)) in
    omega arith

module _ {X : Type 0} where
  left_item : (m : map.FinMap nat_cmp X) (k q : ℕ) → IsSome (map.get (map.remove m k) q) → (q ≢ k) × IsSome (map.get m q)
  left_item m k q there =
      elim (eqb_tells q k) [
        | inl (_, same) ↦ absurd (true≢false (sym there ∙ ap is_some (removed_here m k q same)))
        | inr (_, apart) ↦ (apart, ap is_some (sym (removed_apart m k q apart)) ∙ there)
      ]

  -- items under the numbers of a span are no more than that
  pub few_items : (size low : ℕ) (m : map.FinMap nat_cmp X) → ((q : ℕ) → IsSome (map.get m q) → (low ≤ q) × (q < low + size)) → map.len m ≤ size
  few_items zero low m within =
      let none : m ≡ map.empty = same_map m map.empty (λ q. none_is_none (map.get m q) (λ there. let is = within q there in let above = is.0 in let below = is.1 in omega arith) ∙ sym (map.get-empty nat_cmp q)) in
      let len : map.len m ≡ 0 = ap map.len none ∙ map.len-empty nat_cmp X in
      omega arith
  few_items (suc size) low m within =
      let rest = few_items size low (map.remove m (low + size)) (λ q there.
      let left = left_item m (low + size) q there in
      let is = within q left.1 in
      let apart : q ≢ low + size = left.0 in
      let above = is.0 in
      let below = is.1 in
      (above, omega arith)) in
      let more = one_more (map.contains_key m (low + size)) (map.len m) (map.len (map.remove m (low + size))) (map.len-remove nat_cmp_total m (low + size)) in
      omega arith

  -- the greatest number below a bound that has an item
  pub record IsGreatest (m : map.FinMap nat_cmp X) (bound : ℕ) : Type 0 where
    pub number : ℕ
    pub there : IsSome (map.get m number)
    pub greatest : (q : ℕ) → q < bound → IsSome (map.get m q) → q ≤ number

  greatest_item : (bound : ℕ) (m : map.FinMap nat_cmp X) → ((q : ℕ) → q < bound → map.get m q ≡ None) ⊎ (IsGreatest m bound)
  greatest_item zero m = inl (λ q below. absurd (omega arith))
  greatest_item (suc bound) m =
      elim (some_or_none (map.get m bound)) [
        | inl there ↦ inr (record { number = bound; there = there; greatest = λ q below has. omega arith })
        | inr none ↦ elim (greatest_item bound m) [
          | inl lower ↦ inl (λ q below. elim (eqb_tells q bound) [ inl (_, same) ↦ ap (map.get m) same ∙ none | inr (_, apart) ↦ lower q (omega arith) ])
          | inr is ↦ inr (record {
            number = is.number;
            there = is.there;
            greatest = λ q below has. elim (eqb_tells q bound) [
              | inl (_, same) ↦ absurd (true≢false (sym has ∙ ap is_some (ap (map.get m) same ∙ none)))
              | inr (_, apart) ↦ is.greatest q (omega arith) has
            ];
          })
        ]
      ]

  -- items whose numbers lie less than a span apart are no more than that
  pub few_near_items : (bound size : ℕ) (m : map.FinMap nat_cmp X) → ((q : ℕ) → IsSome (map.get m q) → q < bound)
      → ((p q : ℕ) → IsSome (map.get m p) → IsSome (map.get m q) → p < q + size) → map.len m ≤ size
  few_near_items bound size m below near =
      elim (greatest_item bound m) [
        | inl none ↦ few_items size 0 m (λ q there. absurd (true≢false (sym there ∙ ap is_some (none q (below q there)))))
        | inr is ↦ few_items size (is.number + 1 - size) m (λ q there.
            let least = near is.number q is.there there in
            let most = is.greatest q (below q there) there in
            (omega arith, omega arith))
      ]

-- a set that ends somewhere has a gap
first_missing : (k : ℕ) (s : NumberSet) → ((gap : ℕ) × IsGap s gap) ⊎ ((n : ℕ) → n < k → HasNumber s n)
first_missing zero s = inr (λ n below. absurd (omega arith))
first_missing (suc k) s =
    elim (first_missing k s) [
      | inl found ↦ inl found
      | inr all ↦ elim (in_or_out s k) [
        | inl has ↦ inr (λ n below. elim (eqb_tells n k) [ inl (_, same) ↦ ap (set.contains s) same ∙ has | inr (_, apart) ↦ all n (omega arith) ])
        | inr lacks ↦ inl (k, record { missing = lacks; below = all })
      ]
    ]

pub has_gap : (s : NumberSet) (bound : ℕ) → ((n : ℕ) → HasNumber s n → n < bound) → (gap : ℕ) × IsGap s gap
has_gap s bound ends =
    elim (first_missing (suc bound) s) [
      | inl found ↦ found
      | inr all ↦ absurd (let last = ends bound (all bound (omega arith)) in omega arith)
    ]
