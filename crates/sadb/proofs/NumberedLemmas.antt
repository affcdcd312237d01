-- What stands in a map made of a function on numbers, and how the map changes with the function.
use Rattle.std.proofs.Common.{◌≡◌, ◌≢◌, ◌+◌, ◌-◌, ◌<◌, ◌≤◌, ℕ, zero, suc, Bool, true, false, cond, not, ◌&&◌, ◌||◌, Option, Some, None, arith, sym, ap, ◌∙◌, refl, inl, inr, subst}
use Rattle.std.proofs.lemmas.Bool.{eq-eqb, ne_eqb}
use Rattle.std.proofs.lemmas.Bool.Decides.{eqb_tells, leb_tells}
use Rattle.std.specs.Ordering.{nat_cmp}
use Rattle.std.specs.Cmp.{nat_cmp_total, unsigned_tied}
use Rattle.std.specs.FinMap as map
use Rattle.std.specs.FinSet as set
use Rattle.sadb.specs.Numbered.{numbered, with_option, passing, with_member}

-- what holds of each key that lies below base or is a number behind it
at_each_place : (base : ℕ) (P : ℕ → Type 0) → ((q : ℕ) → q < base → P q) → ((i : ℕ) → P (base + i)) → (q : ℕ) → P q
at_each_place base P below from q =
    elim (leb_tells base q) [
      | inl (_, upward) ↦ (let same : base + (q - base) ≡ q = omega arith in subst P same (from (q - base)))
      | inr (_, downward) ↦ below q (omega arith)
    ]

-- a map after one change, at the key that changed and at another one
module _ {X : Type 0} where
  abbrev choice : Option X → Option X → Bool → Option X
  choice here there b = cond b here there

  pub inserted_here : (m : map.FinMap nat_cmp X) (k q : ℕ) (v : X) → q ≡ k → map.get (map.insert m k v) q ≡ Some v
  inserted_here m k q v same = map.get-insert nat_cmp_total m k v q ∙ ap (choice (Some v) (map.get m q)) (unsigned_tied q k ∙ eq-eqb q k same)

  pub inserted_apart : (m : map.FinMap nat_cmp X) (k q : ℕ) (v : X) → q ≢ k → map.get (map.insert m k v) q ≡ map.get m q
  inserted_apart m k q v apart = map.get-insert nat_cmp_total m k v q ∙ ap (choice (Some v) (map.get m q)) (unsigned_tied q k ∙ ne_eqb q k apart)

  pub removed_here : (m : map.FinMap nat_cmp X) (k q : ℕ) → q ≡ k → map.get (map.remove m k) q ≡ None
  removed_here m k q same = map.get-remove nat_cmp_total m k q ∙ ap (choice None (map.get m q)) (unsigned_tied q k ∙ eq-eqb q k same)

  pub removed_apart : (m : map.FinMap nat_cmp X) (k q : ℕ) → q ≢ k → map.get (map.remove m k) q ≡ map.get m q
  removed_apart m k q apart = map.get-remove nat_cmp_total m k q ∙ ap (choice None (map.get m q)) (unsigned_tied q k ∙ ne_eqb q k apart)

  pub same_map : (m n : map.FinMap nat_cmp X) → ((q : ℕ) → map.get m q ≡ map.get n q) → m ≡ n
  same_map m n is = map.same_map nat_cmp_total map.nat_cmp-IsAntisymmetric m n is

  -- to insert what is there changes nothing
  pub inserted_same : (m : map.FinMap nat_cmp X) (k : ℕ) (v : X) → map.get m k ≡ Some v → map.insert m k v ≡ m
  inserted_same m k v there =
      same_map _ m (λ q. elim (eqb_tells q k) [
        | inl (_, same) ↦ inserted_here m k q v same ∙ sym there ∙ ap (map.get m) (sym same)
        | inr (_, apart) ↦ inserted_apart m k q v apart
      ])

  with_option_here : (m : map.FinMap nat_cmp X) (k : ℕ) (o : Option X) → map.get m k ≡ None → map.get (with_option m k o) k ≡ o
  with_option_here m k None none = none
  with_option_here m k (Some v) none = inserted_here m k k v refl

  with_option_apart : (m : map.FinMap nat_cmp X) (k q : ℕ) (o : Option X) → q ≢ k → map.get (with_option m k o) q ≡ map.get m q
  with_option_apart m k q None apart = refl
  with_option_apart m k q (Some v) apart = inserted_apart m k q v apart

  pub numbered_below : (base : ℕ) (f : ℕ → Option X) (n q : ℕ) → q < base → map.get (numbered base f n) q ≡ None
  numbered_below base f zero q below = map.get-empty nat_cmp q
  numbered_below base f (suc n) q below =
      with_option_apart (numbered base f n) (base + n) q (f n) (λ same. omega arith) ∙ numbered_below base f n q below

  pub numbered_above : (base : ℕ) (f : ℕ → Option X) (n q : ℕ) → base + n ≤ q → map.get (numbered base f n) q ≡ None
  numbered_above base f zero q above = map.get-empty nat_cmp q
  numbered_above base f (suc n) q above =
      with_option_apart (numbered base f n) (base + n) q (f n) (λ same. omega arith) ∙ numbered_above base f n q (omega arith)

  numbered_inside : (base : ℕ) (f : ℕ → Option X) (n i : ℕ) → i < n → map.get (numbered base f n) (base + i) ≡ f i
  numbered_inside base f zero i inside = absurd (omega arith)
  numbered_inside base f (suc n) i inside =
      elim (eqb_tells i n) [
        | inl (_, same) ↦
            ap (λ j. map.get (with_option (numbered base f n) (base + n) (f n)) (base + j)) same
            ∙ with_option_here (numbered base f n) (base + n) (f n) (numbered_above base f n (base + n) (omega arith))
            ∙ ap f (sym same)
        | inr (_, apart) ↦
            with_option_apart (numbered base f n) (base + n) (base + i) (f n) (λ same. apart (omega arith))
            ∙ numbered_inside base f n i (omega arith)
      ]

  -- f has no value from n on
  abbrev pub EndsAt : (ℕ → Option X) → ℕ → Type 0
  EndsAt f n = (j : ℕ) → n ≤ j → f j ≡ None

  pub numbered_at : (base : ℕ) (f : ℕ → Option X) (n : ℕ) → EndsAt f n → (i : ℕ) → map.get (numbered base f n) (base + i) ≡ f i
  numbered_at base f n ends i =
      elim (leb_tells n i) [
        | inl (_, outside) ↦ numbered_above base f n (base + i) (omega arith) ∙ sym (ends i outside)
        | inr (_, inside) ↦ numbered_inside base f n i (omega arith)
      ]

  module _ (base : ℕ) (f g : ℕ → Option X) (n m : ℕ) (f_ends : EndsAt f n) (g_ends : EndsAt g m) where
    pub numbered_same : ((i : ℕ) → g i ≡ f i) → numbered base g m ≡ numbered base f n
    numbered_same is =
        same_map (numbered base g m) (numbered base f n)
        (at_each_place base (λ q. map.get (numbered base g m) q ≡ map.get (numbered base f n) q)
        (λ q below. numbered_below base g m q below ∙ sym (numbered_below base f n q below))
        (λ i. numbered_at base g m g_ends i ∙ is i ∙ sym (numbered_at base f n f_ends i)))

    pub numbered_inserts : (j : ℕ) (v : X) → g j ≡ Some v → ((i : ℕ) → i ≢ j → g i ≡ f i) → numbered base g m ≡ map.insert (numbered base f n) (base + j) v
    numbered_inserts j v here others =
        same_map (numbered base g m) (map.insert (numbered base f n) (base + j) v)
        (at_each_place base (λ q. map.get (numbered base g m) q ≡ map.get (map.insert (numbered base f n) (base + j) v) q)
        (λ q below. numbered_below base g m q below ∙ sym (inserted_apart (numbered base f n) (base + j) q v (λ same. omega arith) ∙ numbered_below base f n q below))
        (λ i. numbered_at base g m g_ends i ∙ elim (eqb_tells i j) [
          | inl (_, same) ↦ ap g same ∙ here ∙ sym (inserted_here (numbered base f n) (base + j) (base + i) v (omega arith))
          | inr (_, apart) ↦ others i apart ∙ sym (inserted_apart (numbered base f n) (base + j) (base + i) v (λ same. apart (omega arith)) ∙ numbered_at base f n f_ends i)
        ]))

    pub numbered_removes : (j : ℕ) → g j ≡ None → ((i : ℕ) → i ≢ j → g i ≡ f i) → numbered base g m ≡ map.remove (numbered base f n) (base + j)
    numbered_removes j here others =
        same_map (numbered base g m) (map.remove (numbered base f n) (base + j))
        (at_each_place base (λ q. map.get (numbered base g m) q ≡ map.get (map.remove (numbered base f n) (base + j)) q)
        (λ q below. numbered_below base g m q below ∙ sym (removed_apart (numbered base f n) (base + j) q (λ same. omega arith) ∙ numbered_below base f n q below))
        (λ i. numbered_at base g m g_ends i ∙ elim (eqb_tells i j) [
          | inl (_, same) ↦ ap g same ∙ here ∙ sym (removed_here (numbered base f n) (base + j) (base + i) (omega arith))
          | inr (_, apart) ↦ others i apart ∙ sym (removed_apart (numbered base f n) (base + j) (base + i) (λ same. apart (omega arith)) ∙ numbered_at base f n f_ends i)
        ]))

-- the same of sets
pub member_here : (s : set.FinSet nat_cmp) (k q : ℕ) → q ≡ k → set.contains (set.insert s k) q ≡ true
member_here s k q same = set.contains-insert nat_cmp_total s k q ∙ ap (λ b. b || set.contains s q) (unsigned_tied q k ∙ eq-eqb q k same)

pub member_apart : (s : set.FinSet nat_cmp) (k q : ℕ) → q ≢ k → set.contains (set.insert s k) q ≡ set.contains s q
member_apart s k q apart = set.contains-insert nat_cmp_total s k q ∙ ap (λ b. b || set.contains s q) (unsigned_tied q k ∙ ne_eqb q k apart)

pub gone_here : (s : set.FinSet nat_cmp) (k q : ℕ) → q ≡ k → set.contains (set.remove s k) q ≡ false
gone_here s k q same = set.contains-remove nat_cmp_total s k q ∙ ap (λ b. not b && set.contains s q) (unsigned_tied q k ∙ eq-eqb q k same)

pub gone_apart : (s : set.FinSet nat_cmp) (k q : ℕ) → q ≢ k → set.contains (set.remove s k) q ≡ set.contains s q
gone_apart s k q apart = set.contains-remove nat_cmp_total s k q ∙ ap (λ b. not b && set.contains s q) (unsigned_tied q k ∙ ne_eqb q k apart)

pub same_set : (s t : set.FinSet nat_cmp) → ((q : ℕ) → set.contains s q ≡ set.contains t q) → s ≡ t
same_set s t is = set.same_set nat_cmp_total set.nat_cmp-IsAntisymmetric s t is

with_member_here : (s : set.FinSet nat_cmp) (k : ℕ) (b : Bool) → set.contains s k ≡ false → set.contains (with_member s k b) k ≡ b
with_member_here s k true none = member_here s k k refl
with_member_here s k false none = none

with_member_apart : (s : set.FinSet nat_cmp) (k q : ℕ) (b : Bool) → q ≢ k → set.contains (with_member s k b) q ≡ set.contains s q
with_member_apart s k q true apart = member_apart s k q apart
with_member_apart s k q false apart = refl

pub passing_below : (base : ℕ) (p : ℕ → Bool) (n q : ℕ) → q < base → set.contains (passing base p n) q ≡ false
passing_below base p zero q below = set.contains-empty nat_cmp q
passing_below base p (suc n) q below =
    with_member_apart (passing base p n) (base + n) q (p n) (λ same. omega arith) ∙ passing_below base p n q below

pub passing_above : (base : ℕ) (p : ℕ → Bool) (n q : ℕ) → base + n ≤ q → set.contains (passing base p n) q ≡ false
passing_above base p zero q above = set.contains-empty nat_cmp q
passing_above base p (suc n) q above =
    with_member_apart (passing base p n) (base + n) q (p n) (λ same. omega arith) ∙ passing_above base p n q (omega arith)

passing_inside : (base : ℕ) (p : ℕ → Bool) (n i : ℕ) → i < n → set.contains (passing base p n) (base + i) ≡ p i
passing_inside base p zero i inside = absurd (omega arith)
passing_inside base p (suc n) i inside =
    elim (eqb_tells i n) [
      | inl (_, same) ↦
          ap (λ j. set.contains (with_member (passing base p n) (base + n) (p n)) (base + j)) same
          ∙ with_member_here (passing base p n) (base + n) (p n) (passing_above base p n (base + n) (omega arith))
          ∙ ap p (sym same)
      | inr (_, apart) ↦
          with_member_apart (passing base p n) (base + n) (base + i) (p n) (λ same. apart (omega arith))
          ∙ passing_inside base p n i (omega arith)
    ]

-- nothing passes from n on
abbrev pub StopsAt : (ℕ → Bool) → ℕ → Type 0
StopsAt p n = (j : ℕ) → n ≤ j → p j ≡ false

pub passing_at : (base : ℕ) (p : ℕ → Bool) (n : ℕ) → StopsAt p n → (i : ℕ) → set.contains (passing base p n) (base + i) ≡ p i
passing_at base p n stops i =
    elim (leb_tells n i) [
      | inl (_, outside) ↦ passing_above base p n (base + i) (omega arith) ∙ sym (stops i outside)
      | inr (_, inside) ↦ passing_inside base p n i (omega arith)
    ]

module _ (base : ℕ) (p r : ℕ → Bool) (n m : ℕ) (p_stops : StopsAt p n) (r_stops : StopsAt r m) where
  pub passing_same : ((i : ℕ) → r i ≡ p i) → passing base r m ≡ passing base p n
  passing_same is =
      same_set (passing base r m) (passing base p n)
      (at_each_place base (λ q. set.contains (passing base r m) q ≡ set.contains (passing base p n) q)
      (λ q below. passing_below base r m q below ∙ sym (passing_below base p n q below))
      (λ i. passing_at base r m r_stops i ∙ is i ∙ sym (passing_at base p n p_stops i)))

  pub passing_inserts : (j : ℕ) → r j ≡ true → ((i : ℕ) → i ≢ j → r i ≡ p i) → passing base r m ≡ set.insert (passing base p n) (base + j)
  passing_inserts j here others =
      same_set (passing base r m) (set.insert (passing base p n) (base + j))
      (at_each_place base (λ q. set.contains (passing base r m) q ≡ set.contains (set.insert (passing base p n) (base + j)) q)
      (λ q below. passing_below base r m q below ∙ sym (member_apart (passing base p n) (base + j) q (λ same. omega arith) ∙ passing_below base p n q below))
      (λ i. passing_at base r m r_stops i ∙ elim (eqb_tells i j) [
        | inl (_, same) ↦ ap r same ∙ here ∙ sym (member_here (passing base p n) (base + j) (base + i) (omega arith))
        | inr (_, apart) ↦ others i apart ∙ sym (member_apart (passing base p n) (base + j) (base + i) (λ same. apart (omega arith)) ∙ passing_at base p n p_stops i)
      ]))

  pub passing_removes : (j : ℕ) → r j ≡ false → ((i : ℕ) → i ≢ j → r i ≡ p i) → passing base r m ≡ set.remove (passing base p n) (base + j)
  passing_removes j here others =
      same_set (passing base r m) (set.remove (passing base p n) (base + j))
      (at_each_place base (λ q. set.contains (passing base r m) q ≡ set.contains (set.remove (passing base p n) (base + j)) q)
      (λ q below. passing_below base r m q below ∙ sym (gone_apart (passing base p n) (base + j) q (λ same. omega arith) ∙ passing_below base p n q below))
      (λ i. passing_at base r m r_stops i ∙ elim (eqb_tells i j) [
        | inl (_, same) ↦ ap r same ∙ here ∙ sym (gone_here (passing base p n) (base + j) (base + i) (omega arith))
        | inr (_, apart) ↦ others i apart ∙ sym (gone_apart (passing base p n) (base + j) (base + i) (λ same. apart (omega arith)) ∙ passing_at base p n p_stops i)
      ]))
