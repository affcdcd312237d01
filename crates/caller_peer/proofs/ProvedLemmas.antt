-- A proof is accepted exactly if it is the first such peer's.
use Rattle.std.proofs.Common.{◌≡◌, ◌≢◌, ◌≤◌, ◌↔◌, ℕ, Bool, true, false, ◌&&◌, if◌then◌else◌, nat_eq, nat_le, List, [], ◌∷◌, ◌++◌, length, codes, refl, sym, ap, ◌∙◌, inl, inr}
use Rattle.std.specs.List.{AllByRecursion}
use Rattle.std.specs.Cmp.Lexicographic.{pointwise, same_text}
use Rattle.std.proofs.lemmas.Bool.{and_parts, cases_Bool, eq-eqb, eqb-true, le-leb, leb-true}
use Rattle.mac.specs.Hmac.{hmac_sha256}
use Rattle.caller_peer.specs.declared.shared_key.Peer.{Peer}
use Rattle.caller_peer.specs.SharedKeys.{IsFirst, IsProved, is_accepted, proof_under, proved_by, proves_under, shared_key_method}
use Rattle.caller_peer.specs.BodyLaws.{pointwise_itself}

impossible : {X : Type 0} → (false ≡ true) → X
impossible is = cc

not_both : (t : Bool) → t ≡ true → t ≡ false → ⊥
not_both t holds fails = impossible (sym fails ∙ holds)

two : (a b : Bool) → a ≡ true → b ≡ true → (a && b) ≡ true
two a b is_a is_b = rw (is_a, is_b) refl

picked : (t x y : Bool) → t ≡ true → (if t then x else y) ≡ x
picked t x y is = rw is refl

passed : (t x y : Bool) → t ≡ false → (if t then x else y) ≡ y
passed t x y is = rw is refl

same_itself : (xs ys : List ℕ) → xs ≡ ys → pointwise nat_eq xs ys ≡ true
same_itself xs ys is = ap (pointwise nat_eq xs) (sym is) ∙ pointwise_itself xs

-- what section 2.15 has a secret prove octets with
under : (secret octets : List ℕ) → proof_under secret octets ≡ hmac_sha256 (hmac_sha256 secret (codes "Key Pad for IKEv2")) octets
unfolding proof_under
under secret octets = refl

under_parts : (secret octets given : List ℕ) → proves_under secret octets given ≡ true → (1 ≤ length secret) × (given ≡ proof_under secret octets)
unfolding proves_under
under_parts secret octets given is =
    let parts = and_parts (nat_le 1 (length secret)) (pointwise nat_eq given (proof_under secret octets)) is in
    (leb-true 1 (length secret) parts.0, same_text given (proof_under secret octets) (sym parts.1))

under_made : (secret octets given : List ℕ) → 1 ≤ length secret → given ≡ proof_under secret octets → proves_under secret octets given ≡ true
unfolding proves_under
under_made secret octets given some is =
    two (nat_le 1 (length secret)) (pointwise nat_eq given (proof_under secret octets)) (le-leb 1 (length secret) some)
    (same_itself given (proof_under secret octets) is)

record Proves (peers : List Peer) (kind : ℕ) (id octets given : List ℕ) : Type 0 where
  pub peer : Peer
  pub known : IsFirst peers kind id peer
  pub some : 1 ≤ length peer.secret
  pub is : given ≡ proof_under peer.secret octets

further : (first : Peer) (peers : List Peer) (kind : ℕ) (id octets given : List ℕ) → (nat_eq first.kind kind && pointwise nat_eq first.id id) ≡ false →
    Proves peers kind id octets given → Proves (first ∷ peers) kind id octets given
further first peers kind id octets given other is = record {
  peer = is.peer;
  known = record {
    before = first ∷ is.known.before;
    behind = is.known.behind;
    there = ap (λ (ps : List Peer). first ∷ ps) is.known.there;
    kind_is = is.known.kind_is;
    id_is = is.known.id_is;
    others = (λ kind_is id_is. not_both _ (two (nat_eq first.kind kind) (pointwise nat_eq first.id id) (eq-eqb first.kind kind kind_is) (same_itself first.id id id_is)) other, is.known.others);
  };
  some = is.some;
  is = is.is;
}

found_here : (first : Peer) (peers : List Peer) (kind : ℕ) (id octets given : List ℕ) → (nat_eq first.kind kind && pointwise nat_eq first.id id) ≡ true →
    proves_under first.secret octets given ≡ true → Proves (first ∷ peers) kind id octets given
found_here first peers kind id octets given named right =
    let parts = and_parts (nat_eq first.kind kind) (pointwise nat_eq first.id id) named in
    let under_own = under_parts first.secret octets given right in
    record {
      peer = first;
      known = record {
        before = [];
        behind = peers;
        there = refl;
        kind_is = eqb-true first.kind kind parts.0;
        id_is = same_text first.id id (sym parts.1);
        others = tt;
      };
      some = under_own.0;
      is = under_own.1;
    }

proves : (peers : List Peer) (kind : ℕ) (id octets given : List ℕ) → proved_by peers kind id octets given ≡ true → Proves peers kind id octets given
proves [] kind id octets given is = impossible is
proves (first ∷ peers) kind id octets given is =
    let named = nat_eq first.kind kind && pointwise nat_eq first.id id in
    let right = proves_under first.secret octets given in
    let others = proved_by peers kind id octets given in
    elim (cases_Bool named) [
      | inl here ↦ found_here first peers kind id octets given here (sym (picked named right others here) ∙ is)
      | inr other ↦ further first peers kind id octets given other (proves peers kind id octets given (sym (passed named right others other) ∙ is))
    ]

-- whom none before it has the identity of
reaches : (before behind : List Peer) (peer : Peer) (kind : ℕ) (id octets given : List ℕ) → peer.kind ≡ kind → peer.id ≡ id →
    AllByRecursion (λ other. other.kind ≡ kind → other.id ≢ id) before →
    proved_by (before ++ peer ∷ behind) kind id octets given ≡ proves_under peer.secret octets given
reaches [] behind peer kind id octets given kind_is id_is others =
    picked _ _ _ (two (nat_eq peer.kind kind) (pointwise nat_eq peer.id id) (eq-eqb peer.kind kind kind_is) (same_itself peer.id id id_is))
reaches (first ∷ before) behind peer kind id octets given kind_is id_is others =
    let named = nat_eq first.kind kind && pointwise nat_eq first.id id in
    elim (cases_Bool named) [
      | inl here ↦
          (let parts = and_parts (nat_eq first.kind kind) (pointwise nat_eq first.id id) here in
          absurd (others.0 (eqb-true first.kind kind parts.0) (same_text first.id id (sym parts.1))))
      | inr other ↦ passed named _ _ other ∙ reaches before behind peer kind id octets given kind_is id_is others.1
    ]

pub accepted_exactly : (peers : List Peer) (kind : ℕ) (id : List ℕ) (method : ℕ) (octets given : List ℕ) →
    (is_accepted peers kind id method octets given ≡ true) ↔ IsProved peers kind id method octets given
unfolding is_accepted
accepted_exactly peers kind id method octets given = (
  λ is.
      let parts = and_parts (nat_eq method shared_key_method) (proved_by peers kind id octets given) is in
      let told = proves peers kind id octets given parts.1 in
      record { by_shared_key = eqb-true method shared_key_method parts.0; peer = told.peer; known = told.known; some = told.some; is = told.is ∙ under told.peer.secret octets },
  λ is.
      two (nat_eq method shared_key_method) (proved_by peers kind id octets given) (eq-eqb method shared_key_method is.by_shared_key)
      (ap (λ (ps : List Peer). proved_by ps kind id octets given) is.known.there
      ∙ reaches is.known.before is.known.behind is.peer kind id octets given is.known.kind_is is.known.id_is is.known.others
      ∙ under_made is.peer.secret octets given is.some (is.is ∙ sym (under is.peer.secret octets))),
)
