-- The peer's requests: as they begin, after one was processed, and what holds of them always.
use Rattle.std.proofs.Common.{◌≡◌, ◌+◌, ◌-◌, ◌<◌, ◌≤◌, ◌^◌, ◌⊎◌, ℕ, Bool, true, false, cond, Option, Some, None, IsSome, is_some, nat_le, nat_lt, arith, sym, ap, ◌∙◌, refl, inl, inr}
use Rattle.std.proofs.lemmas.Bool.{true≢false}
use Rattle.std.proofs.lemmas.Bool.Decides.{eqb_tells, leb_tells, nat_tests}
use Rattle.std.proofs.lemmas.Option.{none-some}
use Rattle.std.specs.Ordering.{nat_cmp}
use Rattle.std.specs.FinMap as map
use Rattle.std.specs.FinSet as set
use Rattle.base.specs.Octets.{Octets}
use Rattle.requests.specs.Incoming.{PeerRequests, IsFreshRequest, IsLeftBehind, TakesRequest, IsSoundIncoming}
use Rattle.requests.specs.Numbers.{NumberSet, HasNumber, IsGap}
use Rattle.requests.specs.Storage.{AreIncoming}
use Rattle.requests.proofs.CountLemmas.{few_near_items}
use Rattle.requests.proofs.EntryLemmas.{inserted_here, inserted_apart, retained}
use Rattle.requests.proofs.SetLemmas.{member_here, member_apart, none_in_empty, still_member, not_both, above_gap, gap_rises, missing_from, missing_at}

abbrev pub Replies : Type 0
Replies = map.FinMap nat_cmp Octets

none_kept : (kept : Replies) → kept ≡ map.empty → (n : ℕ) → ¬ IsSome (map.get kept n)
none_kept kept none n there = true≢false (sym there ∙ ap (λ (m : Replies). is_some (map.get m n)) none ∙ ap is_some (map.get-empty nat_cmp n))

pub begins_empty : (s : NumberSet) (kept : Replies) → s ≡ set.empty → kept ≡ map.empty → AreIncoming s 1 kept
begins_empty s kept empty none = record {
  some = omega arith;
  most = omega arith;
  none_above = λ gap n is_gap above. ap (λ (t : NumberSet). set.contains t n) empty ∙ none_in_empty n;
  kept_in_effect = λ n there. absurd (none_kept kept none n there);
  kept_near = λ n later there has. absurd (none_kept kept none n there);
}

pub begins_with_0 : (s : NumberSet) (kept : Replies) → s ≡ set.insert set.empty 0 → kept ≡ map.empty → AreIncoming s 1 kept
begins_with_0 s kept zero none = record {
  some = omega arith;
  most = omega arith;
  none_above = λ gap n is_gap above. ap (λ (t : NumberSet). set.contains t n) zero ∙ member_apart set.empty 0 n (λ same. omega arith) ∙ none_in_empty n;
  kept_in_effect = λ n there. absurd (none_kept kept none n there);
  kept_near = λ n later there has. absurd (none_kept kept none n there);
}

pub begins_below : (s : NumberSet) (kept : Replies) (end : ℕ) → ((q : ℕ) → set.contains s q ≡ nat_lt q end) → kept ≡ map.empty → AreIncoming s 1 kept
begins_below s kept end are none = record {
  some = omega arith;
  most = omega arith;
  none_above = λ gap n is_gap above. (let from = missing_from s end gap are is_gap.missing in missing_at s end n are (omega arith));
  kept_in_effect = λ n there. absurd (none_kept kept none n there);
  kept_near = λ n later there has. absurd (none_kept kept none n there);
}

chosen : (b : Bool) (o : Option Octets) (octets : Octets) → cond b o None ≡ Some octets → (b ≡ true) × (o ≡ Some octets)
chosen true o octets is = (refl, is)
chosen false o octets is = absurd (none-some octets is)

-- ---- after a request was processed
module _ (s : NumberSet) (size room number first : ℕ) (kept : Replies) (reply : Octets) (are : AreIncoming s size kept)
    (fresh : IsFreshRequest (record { in_effect = s; size = size; kept = kept; room = room }) number) (first_is : first ≡ number + 1 - size) where
  abbrev after_kept : Replies
  after_kept = map.retain_keys (map.insert kept number reply) (nat_le first)

  kept_after : (n : ℕ) → map.get after_kept n ≡ cond (nat_le first n) (map.get (map.insert kept number reply) n) None
  kept_after n = retained (map.insert kept number reply) (nat_le first) n

  -- nothing in effect lies a window above the new Message ID
  near_new : (q : ℕ) → HasNumber (set.insert s number) q → q < number + size
  near_new q has =
      let some = are.some in
      elim (eqb_tells q number) [
        | inl (_, same) ↦ omega arith
        | inr (_, apart) ↦
            (let old : HasNumber s q = sym (member_apart s number q apart) ∙ has in
            let gap = above_gap s fresh.gap number fresh.is_gap fresh.not_in_effect in
            elim (leb_tells (fresh.gap + size) q) [
              | inl (_, above) ↦ absurd (not_both s q old (are.none_above fresh.gap q fresh.is_gap above))
              | inr (_, below) ↦ omega arith
            ])
      ]

  from_first : (n : ℕ) → nat_le first n ≡ true → number < n + size
  from_first n is = let some = are.some in let from : first ≤ n = grind (arith, nat_tests, is) in omega arith

  some_kept : (n : ℕ) → IsSome (map.get after_kept n) → (number < n + size) × ((n ≡ number) ⊎ (IsSome (map.get kept n)))
  some_kept n there =
      elim (nat_le first n) as (λ b. nat_le first n ≡ b → is_some (cond b (map.get (map.insert kept number reply) n) None) ≡ true → (number < n + size) × ((n ≡ number) ⊎ (IsSome (map.get kept n)))) [
        | true ↦ λ is some. (
          from_first n is,
          elim (eqb_tells n number) [
            | inl (_, same) ↦ inl same
            | inr (_, apart) ↦ inr (ap is_some (sym (inserted_apart kept number n reply apart)) ∙ some)
          ],
        )
        | false ↦ λ is some. absurd (true≢false (sym some))
      ] refl (ap is_some (sym (kept_after n)) ∙ there)

  still_near : (n later : ℕ) → IsSome (map.get after_kept n) → HasNumber (set.insert s number) later → later < n + size
  still_near n later there has =
      let is = some_kept n there in
      elim is.1 [
        | inl same ↦ (let near = near_new later has in omega arith)
        | inr old ↦ elim (eqb_tells later number) [
          | inl (_, same) ↦ (let near = is.0 in omega arith)
          | inr (_, apart) ↦ are.kept_near n later old (sym (member_apart s number later apart) ∙ has)
        ]
      ]

  pub are_after : AreIncoming (set.insert s number) size after_kept
  are_after = record {
    some = are.some;
    most = are.most;
    none_above = λ gap n is_gap above.
        (let rises = gap_rises s number fresh.gap gap fresh.is_gap is_gap in
        let inside = fresh.inside in
        member_apart s number n (λ same. omega arith) ∙ are.none_above fresh.gap n fresh.is_gap (omega arith));
    kept_in_effect = λ n there. elim (some_kept n there).1 [
      | inl same ↦ member_here s number n same
      | inr old ↦ still_member s number n (are.kept_in_effect n old)
    ];
    kept_near = still_near;
  }

  abbrev after_all : ℕ → PeerRequests
  after_all left = record { in_effect = set.insert s number; size = size; kept = after_kept; room = left }

  stays_kept : (left n : ℕ) → ¬ IsLeftBehind (after_all left) n → nat_le first n ≡ true
  stays_kept left n near =
      elim (leb_tells first n) [
        | inl (is, _) ↦ is
        | inr (_, below) ↦ absurd (near (record { later = number; in_effect = member_here s number number refl; far = omega arith }))
      ]

  pub takes : (left : ℕ) → left + map.len after_kept ≡ room + map.len kept → TakesRequest (record { in_effect = s; size = size; kept = kept; room = room }) number reply (after_all left)
  takes left whole = record {
    fresh = fresh;
    in_effect = refl;
    size = refl;
    kept = λ n octets. (
      λ is.
          (let parts = chosen (nat_le first n) (map.get (map.insert kept number reply) n) octets (sym (kept_after n) ∙ is) in
          (parts.1, λ behind. let near = still_near n behind.later (ap is_some is) behind.in_effect in let far = behind.far in omega arith)),
      λ both. kept_after n ∙ ap (λ b. cond b (map.get (map.insert kept number reply) n) None) (stays_kept left n both.1) ∙ both.0,
    );
    own_reply =
        (let some = are.some in
        let from : nat_le first number ≡ true = (let is : first ≤ number = omega arith in grind (arith, nat_tests)) in
        kept_after number ∙ ap (λ b. cond b (map.get (map.insert kept number reply) number) None) from ∙ inserted_here kept number number reply refl);
    room = whole;
  }

pub incoming_sound : (s : NumberSet) (size room gap : ℕ) (kept : Replies) → AreIncoming s size kept → IsGap s gap → ((n : ℕ) → HasNumber s n → n < 2 ^ 32)
    → IsSoundIncoming (record { in_effect = s; size = size; kept = kept; room = room })
incoming_sound s size room gap kept are is_gap fits = record {
  some = are.some;
  most = are.most;
  gap = gap;
  is_gap = is_gap;
  none_above = λ n above. are.none_above gap n is_gap above;
  fits = fits;
  kept_in_effect = are.kept_in_effect;
  kept_near = λ n there behind. let near = are.kept_near n behind.later there behind.in_effect in let far = behind.far in omega arith;
  few = few_near_items (2 ^ 32) size kept (λ q there. fits q (are.kept_in_effect q there)) (λ p q first second. are.kept_near q p second (are.kept_in_effect p first));
}
