-- What a call leaves is determined by its arguments and by what was there, but for room.
use Rattle.std.proofs.Common.{◌≡◌, ◌≤◌, ◌<◌, ◌+◌, ℕ, Some, sym, ap, subst, ◌∙◌}
use Rattle.std.specs.FinMap as map
use Rattle.std.specs.FinSet as set
use Rattle.base.specs.Octets.{Octets}
use Rattle.requests.specs.Contents.{incoming_content, outgoing_content}
use Rattle.requests.specs.Incoming.{PeerRequests, HasSameRequests, IsFreshRequest, IsJudgement, IsOutsideWindow, TakesRequest}
use Rattle.requests.specs.Numbers.{IsGap}
use Rattle.requests.specs.Outgoing.{OwnRequests, HasSameOwnRequests, IssuesRequest, CountsAnswer, ReplacesRequest, WithdrawsRequest, GivesUpRequests}
use Rattle.requests.specs.declared.incoming.Judgement.{Judgement}
use Rattle.requests.specs.declared.incoming.Judgement.TheVariants.{Fresh, Repeat, Forgotten, Outside}
use Rattle.requests.proofs.EntryLemmas.{same_map}
use Rattle.requests.proofs.FollowingLemmas.{same_option, behind_too}

pub same_after_preparing : (old new : PeerRequests) → HasSameRequests old new → incoming_content new ≡ incoming_content old
same_after_preparing old new is = ap incoming_content is.content

module _ (r other : PeerRequests) (n : ℕ) (same : incoming_content r ≡ incoming_content other) where
  fresh_alike : IsFreshRequest r n → IsFreshRequest other n
  fresh_alike is = record {
    not_in_effect = ap (λ (x : PeerRequests). set.contains x.in_effect n) (sym same) ∙ is.not_in_effect;
    gap = is.gap;
    is_gap = subst (λ (x : PeerRequests). IsGap x.in_effect is.gap) same is.is_gap;
    inside = subst (λ (x : PeerRequests). n < is.gap + x.size) same is.inside;
  }

  outside_alike : IsOutsideWindow r n → IsOutsideWindow other n
  outside_alike is = record {
    not_in_effect = ap (λ (x : PeerRequests). set.contains x.in_effect n) (sym same) ∙ is.not_in_effect;
    gap = is.gap;
    is_gap = subst (λ (x : PeerRequests). IsGap x.in_effect is.gap) same is.is_gap;
    outside = subst (λ (x : PeerRequests). is.gap + x.size ≤ n) same is.outside;
  }

  pub judged_alike : (j : Judgement) → IsJudgement r n j → IsJudgement other n j
  judged_alike Fresh is = fresh_alike is
  judged_alike (Repeat reply) is =
      (ap (λ (x : PeerRequests). set.contains x.in_effect n) (sym same) ∙ is.0, ap (λ (x : PeerRequests). map.get x.kept n) (sym same) ∙ is.1)
  judged_alike Forgotten is =
      (ap (λ (x : PeerRequests). set.contains x.in_effect n) (sym same) ∙ is.0, ap (λ (x : PeerRequests). map.get x.kept n) (sym same) ∙ is.1)
  judged_alike Outside is = outside_alike is

kept_by_both : (old other a b : PeerRequests) (n q : ℕ) (reply octets : Octets) → incoming_content old ≡ incoming_content other → TakesRequest old n reply a → TakesRequest other n reply b
    → a.in_effect ≡ b.in_effect → a.size ≡ b.size → map.get a.kept q ≡ Some octets → map.get b.kept q ≡ Some octets
kept_by_both old other a b n q reply octets same one two numbers size is =
    let was = (one.kept q octets).0 is in
    (two.kept q octets).1 (ap (λ (x : PeerRequests). map.get (map.insert x.kept n reply) q) (sym same) ∙ was.0, λ behind. was.1 (behind_too b a q (sym numbers) (sym size) behind))

pub same_after_taking : (old other a b : PeerRequests) (n : ℕ) (reply : Octets) → incoming_content old ≡ incoming_content other → TakesRequest old n reply a → TakesRequest other n reply b → incoming_content a ≡ incoming_content b
same_after_taking old other a b n reply same one two =
    let numbers : a.in_effect ≡ b.in_effect = one.in_effect ∙ ap (λ (x : PeerRequests). set.insert x.in_effect n) same ∙ sym two.in_effect in
    let size : a.size ≡ b.size = one.size ∙ ap (λ (x : PeerRequests). x.size) same ∙ sym two.size in
    let kept : a.kept ≡ b.kept = same_map a.kept b.kept (λ q. same_option (map.get a.kept q) (map.get b.kept q)
    (λ octets is. kept_by_both old other a b n q reply octets same one two numbers size is)
    (λ octets is. kept_by_both other old b a n q reply octets (sym same) two one (sym numbers) (sym size) is)) in
    λ i. record { in_effect = numbers i; size = size i; kept = kept i; room = 0 }

module _ {T : Type 0} where
  one_request : (r other : OwnRequests T) (n : ℕ) (one another : T) → outgoing_content r ≡ outgoing_content other → map.get r.outstanding n ≡ Some one → map.get other.outstanding n ≡ Some another → one ≡ another
  one_request r other n one another same there too =
      let both : Some one ≡ Some another = sym there ∙ ap (λ (x : OwnRequests T). map.get x.outstanding n) same ∙ too in
      cc

  pub same_own_after_preparing : (old new : OwnRequests T) → HasSameOwnRequests old new → outgoing_content new ≡ outgoing_content old
  same_own_after_preparing old new is = ap outgoing_content is.content

  issued_content : (old new : OwnRequests T) (request : T) (n : ℕ) → IssuesRequest old request n new
      → outgoing_content new ≡ record old { next = old.next + 1; outstanding = map.insert old.outstanding old.next request; room = 0 }
  issued_content old new request n is =
      ap outgoing_content is.content
      ∙ ap (λ (k : ℕ). record old { next = old.next + 1; outstanding = map.insert old.outstanding k request; room = 0 }) is.least

  pub same_after_issuing : (old other a b : OwnRequests T) (request : T) (m n : ℕ) → outgoing_content old ≡ outgoing_content other → IssuesRequest old request m a → IssuesRequest other request n b → outgoing_content a ≡ outgoing_content b
  same_after_issuing old other a b request m n same one two =
      issued_content old a request m one
      ∙ ap (λ (x : OwnRequests T). record x { next = x.next + 1; outstanding = map.insert x.outstanding x.next request; room = 0 }) same
      ∙ sym (issued_content other b request n two)

  pub same_after_counting : (old other a b : OwnRequests T) (n : ℕ) (one another : T) → outgoing_content old ≡ outgoing_content other → CountsAnswer old n one a → CountsAnswer other n another b
      → (one ≡ another) × (outgoing_content a ≡ outgoing_content b)
  same_after_counting old other a b n one another same first second = (
    one_request old other n one another same first.there second.there,
    ap outgoing_content first.content
        ∙ ap (λ (x : OwnRequests T). record x { answered = set.insert x.answered n; outstanding = map.remove x.outstanding n; room = 0 }) same
        ∙ sym (ap outgoing_content second.content),
  )

  pub same_after_replacing : (old other a b : OwnRequests T) (n : ℕ) (was were is : T) → outgoing_content old ≡ outgoing_content other → ReplacesRequest old n was is a → ReplacesRequest other n were is b
      → (was ≡ were) × (outgoing_content a ≡ outgoing_content b)
  same_after_replacing old other a b n was were is same first second = (
    one_request old other n was were same first.there second.there,
    ap outgoing_content first.content
        ∙ ap (λ (x : OwnRequests T). record x { outstanding = map.insert x.outstanding n is; room = 0 }) same
        ∙ sym (ap outgoing_content second.content),
  )

  pub same_after_withdrawing : (old other a b : OwnRequests T) (n : ℕ) (one another : T) → outgoing_content old ≡ outgoing_content other → WithdrawsRequest old n one a → WithdrawsRequest other n another b
      → (one ≡ another) × (outgoing_content a ≡ outgoing_content b)
  same_after_withdrawing old other a b n one another same first second = (
    one_request old other n one another same first.there second.there,
    ap outgoing_content first.content
        ∙ ap (λ (x : OwnRequests T). record x { outstanding = map.remove x.outstanding n; room = 0 }) same
        ∙ sym (ap outgoing_content second.content),
  )

  pub same_after_giving_up : (old other a b : OwnRequests T) → outgoing_content old ≡ outgoing_content other → GivesUpRequests old a → GivesUpRequests other b → outgoing_content a ≡ outgoing_content b
  same_after_giving_up old other a b same first second =
      ap outgoing_content first.content
      ∙ ap (λ (x : OwnRequests T). record x { outstanding = map.empty; room = 0 }) same
      ∙ sym (ap outgoing_content second.content)
