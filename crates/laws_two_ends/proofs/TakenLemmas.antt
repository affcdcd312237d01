-- Of a peer that has one request under way at most, the next one is processed, and the reply to it takes
-- the place of the one before.
use Rattle.std.proofs.Common.{◌≡◌, ◌≢◌, ◌+◌, ◌||◌, inl, inr, ℕ, Bool, cond, is_some, Some, ap, arith, refl, subst, sym, ◌∙◌}
use Rattle.std.proofs.lemmas.Bool.{eq-eqb, ne_eqb}
use Rattle.std.proofs.lemmas.Bool.Decides.{eqb_tells}
use Rattle.std.specs.Cmp.{nat_cmp_total}
use Rattle.std.specs.FinMap as map
use Rattle.std.specs.FinSet as set
use Rattle.std.specs.Ordering.{nat_cmp}
use Rattle.base.specs.Octets.{Octets}
use Rattle.esp.proofs.NumberLemmas.{contains-insert_nat}
use Rattle.requests.specs.Incoming.{IsFreshRequest, IsLeftBehind, PeerRequests, TakesRequest}
use Rattle.requests.specs.Numbers.{NumberSet}
use Rattle.laws_two_ends.proofs.WorkedRequestLemmas.{gap_of, lacks_if_not, no_reply, IsUpTo}
use Rattle.laws_two_ends.proofs.MapLemmas.{put_beside, put_there}

beside : (numbers : NumberSet) (end n : ℕ) → n ≢ end → set.contains (set.insert numbers end) n ≡ set.contains numbers n
beside numbers end n apart = contains-insert_nat numbers end n ∙ ap (λ (b : Bool). b || set.contains numbers n) (ne_eqb n end apart)

pub one_more : (numbers : NumberSet) (end : ℕ) → IsUpTo numbers end → IsUpTo (set.insert numbers end) (end + 1)
one_more numbers end are = record {
  has = λ n less. elim (eqb_tells n end) [
    | inl (_, same) ↦ contains-insert_nat numbers end n ∙ ap (λ (b : Bool). b || set.contains numbers n) (eq-eqb n end same)
    | inr (_, apart) ↦ beside numbers end n apart ∙ are.has n (omega (arith, less, apart))
  ];
  only = λ n is. elim (eqb_tells n end) [
    | inl (_, same) ↦ omega (arith, same)
    | inr (_, apart) ↦ let less = are.only n (sym (beside numbers end n apart) ∙ is) in omega (arith, less)
  ];
}

abbrev none_kept : map.FinMap nat_cmp Octets
none_kept = map.empty

pub one_kept : (number : ℕ) (reply : Octets) → map.len (map.insert none_kept number reply) ≡ 1
one_kept number reply =
    let len = map.len-insert nat_cmp_total none_kept number reply
    ∙ ap (λ (b : Bool). cond b (map.len none_kept) (map.len none_kept + 1)) (ap is_some (map.get-empty nat_cmp number)) in
    let none = map.len-empty nat_cmp Octets in
    omega (arith, len, none)

-- all requests below this Message ID were processed
module _ (old : PeerRequests) (number : ℕ) (one : old.size ≡ 1) (are : IsUpTo old.in_effect number) where
  pub fresh_next : IsFreshRequest old number
  fresh_next = record {
    not_in_effect = lacks_if_not old.in_effect number (λ is. let less = are.only number is in absurd (omega (arith, less)));
    gap = number;
    is_gap = gap_of old.in_effect number are;
    inside = omega (arith, one);
  }

  -- and no reply is kept but that to the last
  module _ (reply : Octets) (last : (n : ℕ) (octets : Octets) → map.get old.kept n ≡ Some octets → n + 1 ≡ number) (room : old.room + map.len old.kept ≡ 1) where
    abbrev new : PeerRequests
    new = record old { in_effect = set.insert old.in_effect number; kept = map.insert none_kept number reply; room = 0 }

    near : ¬ IsLeftBehind new number
    near behind =
        let less = (one_more old.in_effect number are).only behind.later behind.in_effect in
        let far = behind.far in
        absurd (omega (arith, less, far, one))

    given_up : (n : ℕ) → n + 1 ≡ number → IsLeftBehind new n
    given_up n is = record { later = number; in_effect = (one_more old.in_effect number are).has number (omega arith); far = omega (arith, one, is) }

    pub takes_next : TakesRequest old number reply new
    takes_next = record {
      fresh = fresh_next;
      in_effect = refl;
      size = refl;
      kept = λ n octets. elim (eqb_tells n number) [
        | inl (_, same) ↦ (
          λ is. (
            put_there old.kept number n reply same ∙ sym (put_there none_kept number n reply same) ∙ is,
            λ behind. near (subst (λ (m : ℕ). IsLeftBehind new m) same behind),
          ),
          λ both. put_there none_kept number n reply same ∙ sym (put_there old.kept number n reply same) ∙ both.0,
        )
        | inr (_, apart) ↦ (
          λ is. absurd (no_reply n octets (sym (put_beside none_kept number n reply apart) ∙ is)),
          λ both. absurd (both.1 (given_up n (last n octets (sym (put_beside old.kept number n reply apart) ∙ both.0)))),
        )
      ];
      own_reply = put_there none_kept number number reply refl;
      room = let kept = one_kept number reply in omega (arith, kept, room);
    }
