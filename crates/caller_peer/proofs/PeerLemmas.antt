-- The first peer with an identity.
use Rattle.std.proofs.Common.{◌≡◌, ℕ, ◌+◌, ◌<◌, Bool, true, false, nat_eq, ◌&&◌, if◌then◌else◌, List, ◌∷◌, length, get_or, drop, refl, sym, ap, ◌∙◌}
use Rattle.std.specs.Cmp.Lexicographic.{pointwise}
use Rattle.std.proofs.lemmas.Bool.{eq-eqb}
use Rattle.std.proofs.lemmas.List.{drop_more}
use Rattle.caller_peer.specs.declared.shared_key.Peer.{Peer}
use Rattle.caller_peer.specs.SharedKeys.{proved_by, proves_under}

found : (kinds ids : Bool) (x y : Bool) → kinds ≡ true → ids ≡ true → (if kinds && ids then x else y) ≡ x
found kinds ids x y is_kind is_id = rw (is_kind, is_id) refl

passed : (both x y : Bool) → both ≡ false → (if both then x else y) ≡ y
passed both x y is = rw is refl

next_is : (peers : List Peer) (i : ℕ) (peer : Peer) → i < length peers → peer ≡ get_or peers i peer → drop i peers ≡ peer ∷ drop (i + 1) peers
next_is peers i peer within is = drop_more peers i peer within ∙ ap (λ (p : Peer). p ∷ drop (i + 1) peers) (sym is)

pub peer_found : (peers : List Peer) (i : ℕ) (peer : Peer) (kind : ℕ) (id octets given named secret : List ℕ) (same answer : Bool) →
    proved_by (drop i peers) kind id octets given ≡ proved_by peers kind id octets given → i < length peers → peer ≡ get_or peers i peer →
    peer.kind ≡ kind → named ≡ peer.id → same ≡ pointwise nat_eq named id → same ≡ true →
    secret ≡ peer.secret → answer ≡ proves_under secret octets given →
    answer ≡ proved_by peers kind id octets given
peer_found peers i peer kind id octets given named secret same answer before within is is_kind is_named is_same is_true is_secret is_answer =
    let ids : pointwise nat_eq peer.id id ≡ true = ap (λ (n : List ℕ). pointwise nat_eq n id) (sym is_named) ∙ sym is_same ∙ is_true in
    is_answer ∙ ap (λ (s : List ℕ). proves_under s octets given) is_secret
    ∙ sym (found (nat_eq peer.kind kind) (pointwise nat_eq peer.id id) (proves_under peer.secret octets given)
    (proved_by (drop (i + 1) peers) kind id octets given) (eq-eqb peer.kind kind is_kind) ids)
    ∙ sym (ap (λ (ps : List Peer). proved_by ps kind id octets given) (next_is peers i peer within is))
    ∙ before
