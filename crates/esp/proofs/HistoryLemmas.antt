-- What follows for a list of deliveries from the rule by which each one is judged.
use Rattle.std.proofs.Common.{◌≡◌, ℕ, zero, suc, ◌+◌, ◌<◌, ◌≤◌, true, false, List, [], ◌∷◌, ◌++◌, length, take, get_or, refl, subst, add-one, sym, ap, ◌∙◌, arith, inl, inr, ◌⊎◌, Some, None, Option}
use Rattle.std.specs.Prelude.{slice_get, nat_eq}
use Rattle.std.specs.Ordering.{nat_cmp}
use Rattle.std.specs.FinSet as set
use Rattle.std.specs.FinMap as map
use Rattle.std.proofs.lemmas.Bool.{or_cases, or_left, or_right, eqb-true, eq-eqb, cases_Bool, cases_order, both_ways}
use Rattle.std.proofs.lemmas.Option.{slice_get_within, slice_get-get_or}
use Rattle.std.proofs.lemmas.List.{take_more, take_all}
use Rattle.esp.specs.declared.sa.Sa.{Sa}
use Rattle.esp.specs.Judging.{Judges}
use Rattle.esp.specs.Delivery.{all_taken, taken_after, History, taken_at, IsJudged, AtMostOnce, Unforged, Arrives, IsFirstArrival, ExactlyAtFirst}
use Rattle.esp.proofs.NumberLemmas.{contains-insert_nat}

-- what is taken stays taken
insert-keeps : (s : set.FinSet nat_cmp) (k q : ℕ) → set.contains s q ≡ true → set.contains (set.insert s k) q ≡ true
insert-keeps s k q h = contains-insert_nat s k q ∙ or_right (nat_eq q k) (set.contains s q) h

stays_taken : (taken : set.FinSet nat_cmp) (ns : List (Option ℕ)) (q : ℕ) → set.contains taken q ≡ true → set.contains (taken_after taken ns) q ≡ true
stays_taken taken [] q h = h
stays_taken taken (None ∷ ns) q h = stays_taken taken ns q h
stays_taken taken (Some n ∷ ns) q h = stays_taken (set.insert taken n) ns q (insert-keeps taken n q h)

-- what was judged at a position is taken at every later one
taken_later : (taken : set.FinSet nat_cmp) (ns : List (Option ℕ)) (i j n : ℕ) → slice_get ns j ≡ Some (Some n) → j < i → set.contains (taken_after taken (take i ns)) n ≡ true
taken_later taken [] i j n e h = absurd (cc)
taken_later taken (m ∷ ns) zero j n e h = absurd (omega arith)
taken_later taken (Some m ∷ ns) (suc i) zero n e h =
    let same : m ≡ n = cc in
    stays_taken (set.insert taken m) (take i ns) n (contains-insert_nat taken m n ∙ or_left (nat_eq n m) (set.contains taken n) (eq-eqb n m (sym same)))
taken_later taken (None ∷ ns) (suc i) zero n e h = absurd (cc)
taken_later taken (Some m ∷ ns) (suc i) (suc j) n e h = taken_later (set.insert taken m) ns i j n e (omega arith)
taken_later taken (None ∷ ns) (suc i) (suc j) n e h = taken_later taken ns i j n e (omega arith)

-- what is taken at a position was taken at first, or judged at an earlier one
record JudgedBefore (ns : List (Option ℕ)) (i n : ℕ) : Type 0 where
  at : ℕ
  earlier : at < i
  judged : slice_get ns at ≡ Some (Some n)

later : (m : Option ℕ) (ns : List (Option ℕ)) (i n : ℕ) → JudgedBefore ns i n → JudgedBefore (m ∷ ns) (suc i) n
later m ns i n h = record { at = suc h.at; earlier = omega arith; judged = h.judged }

taken_from : (taken : set.FinSet nat_cmp) (ns : List (Option ℕ)) (i n : ℕ) → set.contains (taken_after taken (take i ns)) n ≡ true → (set.contains taken n ≡ true) ⊎ JudgedBefore ns i n
taken_from taken [] zero n h = inl h
taken_from taken [] (suc i) n h = inl h
taken_from taken (m ∷ ns) zero n h = inl h
taken_from taken (None ∷ ns) (suc i) n h = elim (taken_from taken ns i n h) [
  | inl at_first ↦ inl at_first
  | inr before ↦ inr (later None ns i n before)
]
taken_from taken (Some m ∷ ns) (suc i) n h = elim (taken_from (set.insert taken m) ns i n h) [
  | inl at_first ↦ elim (or_cases (nat_eq n m) (set.contains taken n) (sym (contains-insert_nat taken m n) ∙ at_first)) [
    | inl here ↦ inr (record { at = 0; earlier = omega arith; judged = let same : n ≡ m = eqb-true n m here in ap (λ (k : ℕ). Some (Some k)) (sym same) })
    | inr before ↦ inl before
  ]
  | inr before ↦ inr (later (Some m) ns i n before)
]

-- what was delivered at a position, and how it was judged there
record JudgedAt (h : History) (i n : ℕ) : Type 0 where
  packet : List ℕ
  here : slice_get h.packets i ≡ Some packet
  judged : Judges h.association (taken_at h i) packet n

module _ (h : History) (is : IsJudged h) where
  judged_at : (i n : ℕ) → slice_get h.numbers i ≡ Some (Some n) → JudgedAt h i n
  judged_at i n e =
      let within = slice_get_within h.numbers i (Some n) e in
      let each = is.each in
      let here : slice_get h.packets i ≡ Some (get_or h.packets i []) = slice_get-get_or h.packets i [] (omega arith) in
      record { packet = get_or h.packets i []; here = here; judged = (is.judged i n (get_or h.packets i []) here).0 e }

  not_taken : (i n : ℕ) → set.contains (taken_at h i).taken n ≡ false → set.contains h.before n ≡ false
  not_taken i n new = elim (cases_Bool (set.contains h.before n)) [
    | inl was ↦ absurd (both_ways _ new (stays_taken h.before (take i h.numbers) n was))
    | inr absent ↦ absent
  ]

  -- a sequence number that was judged is not judged at a later position
  not_again : (i j n : ℕ) → slice_get h.numbers i ≡ Some (Some n) → slice_get h.numbers j ≡ Some (Some n) → j < i → ⊥
  not_again i j n at_i at_j earlier = both_ways _ (judged_at i n at_i).judged.new (taken_later h.before h.numbers i j n at_j earlier)

  pub at_most_once : AtMostOnce h
  at_most_once = record {
    new = λ i n at_i. not_taken i n (judged_at i n at_i).judged.new;
    once = λ i j n at_i at_j. elim (cases_order i j) [
      | inl same ↦ same
      | inr apart ↦ elim apart [
        | inl before ↦ absurd (not_again j i n at_j at_i before)
        | inr after ↦ absurd (not_again i j n at_i at_j after)
      ]
    ];
  }

  module _ (sent : map.FinMap nat_cmp (List ℕ)) (u : Unforged h sent) where
    -- where a sequence number is judged, what was sent under it arrives
    arrives : (i n : ℕ) → slice_get h.numbers i ≡ Some (Some n) → Arrives h sent n i
    arrives i n at_i =
        let r = judged_at i n at_i in
        record {
          packet = r.packet;
          delivered_here = r.here;
          sent_so = u.no_other i n r.packet r.here r.judged.whole r.judged.number r.judged.intact;
          number = r.judged.number;
          in_reach = r.judged.in_reach;
        }

    -- where what was sent as n arrives and n is not taken yet, n is judged
    judged_on_arrival : (i n : ℕ) → Arrives h sent n i → set.contains (taken_at h i).taken n ≡ false → slice_get h.numbers i ≡ Some (Some n)
    judged_on_arrival i n r new = (is.judged i n r.packet r.delivered_here).1 (record {
      whole = u.whole n r.packet r.sent_so;
      number = r.number;
      in_reach = r.in_reach;
      new = new;
      intact = u.intact n r.packet r.sent_so;
    })

    first_is_judged : (i n : ℕ) → IsFirstArrival h sent n i → slice_get h.numbers i ≡ Some (Some n)
    first_is_judged i n f = elim (cases_Bool (set.contains (taken_at h i).taken n)) [
      | inl was ↦ elim (taken_from h.before h.numbers i n was) [
        | inl at_first ↦ absurd (both_ways _ f.new at_first)
        | inr before ↦ absurd (f.first before.at before.earlier (arrives before.at n before.judged))
      ]
      | inr new ↦ judged_on_arrival i n f.arrives new
    ]

    judged_is_first : (i n : ℕ) → slice_get h.numbers i ≡ Some (Some n) → IsFirstArrival h sent n i
    judged_is_first i n at_i = record {
      new = at_most_once.new i n at_i;
      arrives = arrives i n at_i;
      first = λ j earlier r. elim (cases_Bool (set.contains (taken_at h j).taken n)) [
        | inl was ↦ elim (taken_from h.before h.numbers j n was) [
          | inl at_first ↦ both_ways _ (at_most_once.new i n at_i) at_first
          | inr before ↦ let same = at_most_once.once i before.at n at_i before.judged in let e = before.earlier in omega arith
        ]
        | inr new ↦ let same = at_most_once.once i j n at_i (judged_on_arrival j n r new) in omega arith
      ];
    }

    pub exactly_at_first : ExactlyAtFirst h sent
    exactly_at_first = λ i n. (judged_is_first i n, first_is_judged i n)

-- how packets were judged is determined by the packets
module _ (a : Sa) (size : ℕ) (before : set.FinSet nat_cmp) (bs : List (List ℕ)) where
  abbrev with : List (Option ℕ) → History
  with ns = record { association = a; size = size; before = before; packets = bs; numbers = ns }

  -- a sequence number judged in one history, after the same numbers, was judged in the other
  follows : (ns ms : List (Option ℕ)) (i n : ℕ) → IsJudged (with ns) → IsJudged (with ms) → take i ns ≡ take i ms → slice_get ns i ≡ Some (Some n) → slice_get ms i ≡ Some (Some n)
  follows ns ms i n is other pre e =
      let r = judged_at (with ns) is i n e in
      (other.judged i n r.packet r.here).1 (subst (λ (xs : List (Option ℕ)). Judges a (all_taken size (taken_after before xs)) r.packet n) pre r.judged)

  same_here : (o q : Option ℕ) → ((n : ℕ) → o ≡ Some n → q ≡ Some n) → ((n : ℕ) → q ≡ Some n → o ≡ Some n) → o ≡ q
  same_here None None f g = refl
  same_here (Some n) q f g = sym (f n refl)
  same_here None (Some n) f g = g n refl

  same_at : (ns ms : List (Option ℕ)) (i : ℕ) → IsJudged (with ns) → IsJudged (with ms) → take i ns ≡ take i ms → i < length bs → get_or ns i None ≡ get_or ms i None
  same_at ns ms i is other pre within =
      let each = is.each in
      let each' = other.each in
      let at_ns : slice_get ns i ≡ Some (get_or ns i None) = slice_get-get_or ns i None (omega arith) in
      let at_ms : slice_get ms i ≡ Some (get_or ms i None) = slice_get-get_or ms i None (omega arith) in
      same_here (get_or ns i None) (get_or ms i None)
      (λ n e. let there = follows ns ms i n is other pre (at_ns ∙ ap Some e) in cc)
      (λ n e. let there = follows ms ns i n other is (sym pre) (at_ms ∙ ap Some e) in cc)

  same_prefix : (ns ms : List (Option ℕ)) (i : ℕ) → IsJudged (with ns) → IsJudged (with ms) → i ≤ length bs → take i ns ≡ take i ms
  same_prefix ns ms zero is other within = refl
  same_prefix ns ms (suc i) is other within =
      let each = is.each in
      let each' = other.each in
      let pre = same_prefix ns ms i is other (omega arith) in
      let here = same_at ns ms i is other pre (omega arith) in
      let one : i + 1 ≡ suc i = add-one i in
      subst (λ (k : ℕ). take k ns ≡ take k ms) one
      (take_more ns i None (omega arith) ∙ ap (λ (xs : List (Option ℕ)). xs ++ get_or ns i None ∷ []) pre ∙ ap (λ (o : Option ℕ). take i ms ++ o ∷ []) here ∙ sym (take_more ms i None (omega arith)))

  pub one_history : (ns ms : List (Option ℕ)) → IsJudged (with ns) → IsJudged (with ms) → ns ≡ ms
  one_history ns ms is other =
      let each = is.each in
      let each' = other.each in
      sym (take_all (length bs) ns (omega arith)) ∙ same_prefix ns ms (length bs) is other (omega arith) ∙ take_all (length bs) ms (omega arith)
