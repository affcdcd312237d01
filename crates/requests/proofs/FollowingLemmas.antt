-- What each call makes of the Message IDs, and what follows over many calls.
use Rattle.std.proofs.Common.{◌≡◌, ◌≢◌, ◌+◌, ◌≤◌, ℕ, Option, Some, None, is_some, arith, sym, ap, ◌∙◌, refl, inl, inr}
use Rattle.std.proofs.lemmas.Bool.{true≢false}
use Rattle.std.proofs.lemmas.Bool.Decides.{eqb_tells}
use Rattle.std.proofs.lemmas.Option.{none-some}
use Rattle.std.specs.Ordering.{nat_cmp}
use Rattle.std.specs.FinMap as map
use Rattle.std.specs.FinSet as set
use Rattle.base.specs.Octets.{Octets}
use Rattle.requests.specs.Following.{FollowsIncoming, FollowsOutgoing}
use Rattle.requests.specs.Incoming.{PeerRequests, HasSameRequests, TakesRequest, IsLeftBehind}
use Rattle.requests.specs.Numbers.{NumberSet, HasNumber}
use Rattle.requests.specs.Outgoing.{OwnRequests, IssuesRequest, CountsAnswer, ReplacesRequest, GivesUpRequests, WithdrawsRequest}
use Rattle.requests.proofs.EntryLemmas.{inserted_apart, removed_apart, same_map}
use Rattle.requests.proofs.SetLemmas.{member_here, member_apart, still_member, not_both}

pub after_taking : (old new : PeerRequests) (number : ℕ) (reply : Octets) → TakesRequest old number reply new → FollowsIncoming old new
after_taking old new number reply is = record {
  size = let same = is.size in omega arith;
  in_effect = λ n has. ap (λ (s : NumberSet). set.contains s n) is.in_effect ∙ still_member old.in_effect number n has;
  kept = λ n octets has kept.
      (let apart : n ≢ number = (λ same. not_both old.in_effect number (ap (set.contains old.in_effect) (sym same) ∙ has) is.fresh.not_in_effect) in
      sym (inserted_apart old.kept number n reply apart) ∙ ((is.kept n octets).0 kept).0);
  remembered = λ n octets has kept near.
      (let apart : n ≢ number = (λ same. not_both old.in_effect number (ap (set.contains old.in_effect) (sym same) ∙ has) is.fresh.not_in_effect) in
      (is.kept n octets).1 (inserted_apart old.kept number n reply apart ∙ kept, λ behind. near (record { later = behind.later; in_effect = behind.in_effect; far = omega (arith, behind.far, is.size) })));
}

pub follows_itself : (a : PeerRequests) → FollowsIncoming a a
follows_itself a = record {
  size = omega arith;
  in_effect = λ n has. has;
  kept = λ n octets has kept. kept;
  remembered = λ n octets has kept near. kept;
}

pub follows_again : (a b c : PeerRequests) → FollowsIncoming a b → FollowsIncoming b c → FollowsIncoming a c
follows_again a b c one two = record {
  size = omega (arith, one.size, two.size);
  in_effect = λ n has. two.in_effect n (one.in_effect n has);
  kept = λ n octets has kept. one.kept n octets has (two.kept n octets (one.in_effect n has) kept);
  remembered = λ n octets has kept near.
      two.remembered n octets (one.in_effect n has)
      (one.remembered n octets has kept (λ passed. near (record { later = passed.later; in_effect = two.in_effect passed.later passed.in_effect; far = passed.far })))
      (λ passed. near (record { later = passed.later; in_effect = passed.in_effect; far = omega (arith, passed.far, one.size) }));
}

-- where neither Message IDs nor responses changed
follows_unchanged : (old new : PeerRequests) → old.size ≤ new.size → new.in_effect ≡ old.in_effect → new.kept ≡ old.kept → FollowsIncoming old new
follows_unchanged old new size numbers replies = record {
  size = size;
  in_effect = λ n has. ap (λ (s : NumberSet). set.contains s n) numbers ∙ has;
  kept = λ n octets has kept. ap (λ (m : map.FinMap nat_cmp Octets). map.get m n) (sym replies) ∙ kept;
  remembered = λ n octets has kept near. ap (λ (m : map.FinMap nat_cmp Octets). map.get m n) replies ∙ kept;
}

pub after_preparing : (old new : PeerRequests) → HasSameRequests old new → FollowsIncoming old new
after_preparing old new is =
    let size : new.size ≡ old.size = ap (λ r. r.size) is.content in
    follows_unchanged old new (omega (arith, size)) (ap (λ r. r.in_effect) is.content) (ap (λ r. r.kept) is.content)

pub after_sizing : (old new : PeerRequests) (size : ℕ) → old.size ≤ size → new ≡ record old { size = size } → FollowsIncoming old new
after_sizing old new size more is =
    let same : new.size ≡ size = ap (λ r. r.size) is in
    follows_unchanged old new (omega (arith, more, same)) (ap (λ r. r.in_effect) is) (ap (λ r. r.kept) is)

pub taken_once : (a b c d : PeerRequests) (first second : ℕ) (reply other : Octets)
    → TakesRequest a first reply b → FollowsIncoming b c → TakesRequest c second other d → first ≢ second
taken_once a b c d first second reply other one between two same =
    let took : HasNumber b.in_effect first = ap (λ (s : NumberSet). set.contains s first) one.in_effect ∙ member_here a.in_effect first first refl in
    not_both c.in_effect second (ap (set.contains c.in_effect) (sym same) ∙ between.in_effect first took) two.fresh.not_in_effect

pub same_option : {X : Type 0} (o p : Option X) → ((x : X) → o ≡ Some x → p ≡ Some x) → ((x : X) → p ≡ Some x → o ≡ Some x) → o ≡ p
same_option None None there back = refl
same_option None (Some x) there back = back x refl
same_option (Some x) p there back = sym (there x refl)

pub behind_too : (a b : PeerRequests) (n : ℕ) → a.in_effect ≡ b.in_effect → a.size ≡ b.size → IsLeftBehind a n → IsLeftBehind b n
behind_too a b n same_numbers same_size is = record {
  later = is.later;
  in_effect = ap (λ (s : NumberSet). set.contains s is.later) (sym same_numbers) ∙ is.in_effect;
  far = let far = is.far in omega arith;
}

kept_too : (old a b : PeerRequests) (n q : ℕ) (reply octets : Octets) → TakesRequest old n reply a → TakesRequest old n reply b → a.in_effect ≡ b.in_effect → a.size ≡ b.size
    → map.get a.kept q ≡ Some octets → map.get b.kept q ≡ Some octets
kept_too old a b n q reply octets one two numbers size is =
    let was = (one.kept q octets).0 is in
    (two.kept q octets).1 (was.0, λ behind. was.1 (behind_too b a q (sym numbers) (sym size) behind))

pub one_after_taking : (old a b : PeerRequests) (n : ℕ) (reply : Octets) → TakesRequest old n reply a → TakesRequest old n reply b → a ≡ b
one_after_taking old a b n reply one two =
    let numbers : a.in_effect ≡ b.in_effect = one.in_effect ∙ sym two.in_effect in
    let size : a.size ≡ b.size = one.size ∙ sym two.size in
    let kept : a.kept ≡ b.kept = same_map a.kept b.kept (λ q. same_option (map.get a.kept q) (map.get b.kept q)
    (λ octets is. kept_too old a b n q reply octets one two numbers size is)
    (λ octets is. kept_too old b a n q reply octets two one (sym numbers) (sym size) is)) in
    let room : a.room ≡ b.room = (let left = one.room in let right = two.room in let same = ap map.len kept in omega arith) in
    λ i. record { in_effect = numbers i; size = size i; kept = kept i; room = room i }

module _ {T : Type 0} where
  pub after_issuing : (old new : OwnRequests T) (request : T) (number : ℕ) → IssuesRequest old request number new → FollowsOutgoing old new
  after_issuing old new request number is = record {
    next = let same : new.next ≡ old.next + 1 = ap (λ r. r.next) is.content in omega arith;
    window = let same : new.window ≡ old.window = ap (λ r. r.window) is.content in omega arith;
    answered = λ n has. ap (λ r. set.contains r.answered n) is.content ∙ has;
    outstanding = λ n below there.
        (let least = is.least in
        ap is_some (sym (ap (λ r. map.get r.outstanding n) is.content ∙ inserted_apart old.outstanding number n request (λ same. omega arith))) ∙ there);
    given_up = λ n below none. ap (λ r. set.contains r.answered n) is.content;
  }

  pub after_counting : (old new : OwnRequests T) (request : T) (number : ℕ) → CountsAnswer old number request new → FollowsOutgoing old new
  after_counting old new request number is = record {
    next = let same : new.next ≡ old.next = ap (λ r. r.next) is.content in omega arith;
    window = let same : new.window ≡ old.window = ap (λ r. r.window) is.content in omega arith;
    answered = λ n has. ap (λ r. set.contains r.answered n) is.content ∙ still_member old.answered number n has;
    outstanding = λ n below there. elim (eqb_tells n number) [
      | inl (_, same) ↦ ap is_some (ap (map.get old.outstanding) same ∙ is.there)
      | inr (_, apart) ↦ ap is_some (sym (ap (λ r. map.get r.outstanding n) is.content ∙ removed_apart old.outstanding number n apart)) ∙ there
    ];
    given_up = λ n below none.
        (let apart : n ≢ number = (λ same. none-some request (sym none ∙ ap (map.get old.outstanding) same ∙ is.there)) in
        ap (λ r. set.contains r.answered n) is.content ∙ member_apart old.answered number n apart);
  }

  pub after_withdrawing : (old new : OwnRequests T) (request : T) (number : ℕ) → WithdrawsRequest old number request new → FollowsOutgoing old new
  after_withdrawing old new request number is = record {
    next = let same : new.next ≡ old.next = ap (λ r. r.next) is.content in omega arith;
    window = let same : new.window ≡ old.window = ap (λ r. r.window) is.content in omega arith;
    answered = λ n has. ap (λ r. set.contains r.answered n) is.content ∙ has;
    outstanding = λ n below there. elim (eqb_tells n number) [
      | inl (_, same) ↦ ap is_some (ap (map.get old.outstanding) same ∙ is.there)
      | inr (_, apart) ↦ ap is_some (sym (ap (λ r. map.get r.outstanding n) is.content ∙ removed_apart old.outstanding number n apart)) ∙ there
    ];
    given_up = λ n below none. ap (λ r. set.contains r.answered n) is.content;
  }

  pub after_replacing : (old new : OwnRequests T) (was is : T) (number : ℕ) → ReplacesRequest old number was is new → FollowsOutgoing old new
  after_replacing old new was is number does = record {
    next = let same : new.next ≡ old.next = ap (λ r. r.next) does.content in omega arith;
    window = let same : new.window ≡ old.window = ap (λ r. r.window) does.content in omega arith;
    answered = λ n has. ap (λ r. set.contains r.answered n) does.content ∙ has;
    outstanding = λ n below there. elim (eqb_tells n number) [
      | inl (_, same) ↦ ap is_some (ap (map.get old.outstanding) same ∙ does.there)
      | inr (_, apart) ↦ ap is_some (sym (ap (λ r. map.get r.outstanding n) does.content ∙ inserted_apart old.outstanding number n is apart)) ∙ there
    ];
    given_up = λ n below none. ap (λ r. set.contains r.answered n) does.content;
  }

  pub after_giving_up : (old new : OwnRequests T) → GivesUpRequests old new → FollowsOutgoing old new
  after_giving_up old new is = record {
    next = let same : new.next ≡ old.next = ap (λ r. r.next) is.content in omega arith;
    window = let same : new.window ≡ old.window = ap (λ r. r.window) is.content in omega arith;
    answered = λ n has. ap (λ r. set.contains r.answered n) is.content ∙ has;
    outstanding = λ n below there.
        absurd (true≢false (sym there ∙ ap (λ r. is_some (map.get r.outstanding n)) is.content ∙ ap is_some (map.get-empty nat_cmp n)));
    given_up = λ n below none. ap (λ r. set.contains r.answered n) is.content;
  }
