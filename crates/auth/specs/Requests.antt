-- The request of IKE_AUTH (RFC 7296 section 1.2), and what a responder makes of it.
use Rattle.std.specs.Prelude.{◌≡◌, ◌&&◌, ℕ, Bool, true, false, is_none, is_some, Some, None, List, ◌++◌}
use Rattle.base.specs.Octets.{Octets}
use Rattle.wire.specs.declared.payload.Payload.{Payload}
use Rattle.exchange.specs.Children.{child_payloads, offered}
use Rattle.exchange.specs.Counting.{only_auth, only_id_i, only_sa, only_ts_i, only_ts_r, unknown_critical}
use Rattle.exchange.specs.declared.child.ChildPayloads.{ChildPayloads}
use Rattle.exchange.specs.declared.headers.Role.TheVariants.{Initiator}
use Rattle.exchange.specs.declared.notices.Notice.{Notice}
use Rattle.exchange.specs.declared.notices.Notice.TheVariants.{AuthenticationFailed, InvalidSyntax}
use Rattle.exchange.specs.declared.notices.Notice.TheVariants.{UnsupportedCriticalPayload}
use Rattle.auth.specs.Proofs.{is_peer, names, proved_identity, Accepts, ProvingView}
use Rattle.auth.specs.Windows.{peer_window, window_notices}
use Rattle.auth.specs.declared.identity.Identity.{Identity}
use Rattle.auth.specs.declared.requesting.Asked.{Asked}
use Rattle.auth.specs.declared.requesting.Judgement.{Judgement}
use Rattle.auth.specs.declared.requesting.Judgement.TheVariants as judged
use Rattle.auth.specs.declared.requesting.Parts.{Parts}

-- the initiator's identity, its proof, what is asked for its Child SA, and its window
abbrev pub auth_request : ℕ → (Octets → Octets) → Identity → ProvingView → ChildPayloads → ℕ → List Payload
auth_request own_method proof_of own what child window =
    proved_identity Initiator own_method proof_of own what ++ child_payloads child ++ window_notices window

-- what an accepted request asks for, as plain data
pub record AskedView : Type 0 where
  pub child : ChildPayloads
  pub window : ℕ

abbrev pub asked_view : Asked → AskedView
asked_view asked = record { child = offered asked.offer; window = asked.window }

-- a judgement as plain data
pub data AuthJudgement : Type 0 where
  Refused : Notice → AuthJudgement
  Accepted : AskedView → AuthJudgement

abbrev pub judgement_view : Judgement → AuthJudgement
judgement_view (judged.Refused notice) = Refused notice
judgement_view (judged.Accepted asked) = Accepted (asked_view asked)

-- exactly one of each payload that a request has to have (section 1.2)
abbrev pub is_complete : List Payload → Bool
is_complete payloads =
    is_some (only_id_i payloads) && is_some (only_auth payloads) && is_some (only_sa payloads)
    && is_some (only_ts_i payloads) && is_some (only_ts_r payloads)

-- What they say. Only private contracts cite this.
pub record HasAuthParts (payloads : List Payload) (parts : Parts) : Type 0 where
  pub identity : only_id_i payloads ≡ Some (parts.kind, parts.id.now)
  pub auth : only_auth payloads ≡ Some (parts.method, parts.proof.now)
  pub sa : only_sa payloads ≡ Some parts.offer.proposals.now
  pub ts_i : only_ts_i payloads ≡ Some parts.offer.ts_i.now
  pub ts_r : only_ts_r payloads ≡ Some parts.offer.ts_r.now

-- every payload that is critical is known (section 2.5), but the request is not complete
pub record IsIncompleteRequest (payloads : List Payload) : Type 0 where
  pub known : unknown_critical payloads ≡ None
  pub missing : is_complete payloads ≡ false

-- a complete request, whose sender is not the peer, or has not proved that it is (section 2.21.2)
pub record IsUnproved (accepts : Accepts) (peer : Identity) (what : ProvingView) (payloads : List Payload)
    : Type 0 where
  pub known : unknown_critical payloads ≡ None
  pub complete : is_complete payloads ≡ true
  pub unproved : is_peer accepts peer what (only_id_i payloads) (only_auth payloads) ≡ false

-- a complete request, whose sender has proved that it is the peer, and what it asks for
pub record IsAcceptedRequest (accepts : Accepts) (peer : Identity) (what : ProvingView)
    (payloads : List Payload) (asked : AskedView) : Type 0 where
  pub known : unknown_critical payloads ≡ None
  pub proved : is_peer accepts peer what (only_id_i payloads) (only_auth payloads) ≡ true
  pub sa : only_sa payloads ≡ Some asked.child.proposals
  pub ts_i : only_ts_i payloads ≡ Some asked.child.ts_i
  pub ts_r : only_ts_r payloads ≡ Some asked.child.ts_r
  pub told : asked.window ≡ peer_window payloads

-- Each judgement and when it is given: a critical payload is looked at first, then whether the request is
-- complete, and then whether the peer is proved.
abbrev pub IsAuthJudgement : Accepts → Identity → ProvingView → List Payload → AuthJudgement → Type 0
IsAuthJudgement accepts peer what payloads (Refused (UnsupportedCriticalPayload kind)) =
    unknown_critical payloads ≡ Some kind
IsAuthJudgement accepts peer what payloads (Refused InvalidSyntax) = IsIncompleteRequest payloads
IsAuthJudgement accepts peer what payloads (Refused AuthenticationFailed) =
    IsUnproved accepts peer what payloads
IsAuthJudgement accepts peer what payloads (Refused notice) = ⊥
IsAuthJudgement accepts peer what payloads (Accepted asked) =
    IsAcceptedRequest accepts peer what payloads asked

-- A request of which the proof alone decides: no critical payload is unknown, it is complete, and it names
-- the peer. Any other is refused by what it says.
abbrev pub hangs_on_its_proof : Identity → List Payload → Bool
hangs_on_its_proof peer payloads =
    is_none (unknown_critical payloads) && is_complete payloads
    && names peer (only_id_i payloads) (only_auth payloads)
