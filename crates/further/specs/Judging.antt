-- What a responder makes of the payloads of a request (RFC 7296 sections 1.3, 1.3.1, 1.4.1, 2.5 and 3.10.1).
use Rattle.std.specs.Prelude.{◌≡◌, ◌&&◌, ◌||◌, Bool, true, false, is_some, Some, None, List}
use Rattle.std.specs.List.{list_any}
use Rattle.base.specs.Octets.{Octets}
use Rattle.wire.specs.Numbers.{IKE_PROTOCOL}
use Rattle.wire.specs.declared.payload.Payload.{Payload}
use Rattle.exchange.specs.Children.{offered}
use Rattle.exchange.specs.Counting.{has_ke, offers_protocol, only_nonce, only_sa, only_ts_i, only_ts_r, unknown_critical}
use Rattle.exchange.specs.declared.child.ChildPayloads.{ChildPayloads}
use Rattle.exchange.specs.declared.notices.Notice.{Notice}
use Rattle.exchange.specs.declared.notices.Notice.TheVariants.{UnsupportedCriticalPayload, InvalidSyntax, NoProposalChosen, AuthenticationFailed, NoAdditionalSas, TsUnacceptable, Cookie}
use Rattle.further.specs.declared.judging.FurtherRequest.{FurtherRequest}
use Rattle.further.specs.declared.judging.Judgement.{Judgement}
use Rattle.further.specs.declared.judging.Judgement.TheVariants as judged

-- what a request asks for, as plain data: the Child SA, and the nonce that came with it
pub record FurtherRequestView : Type 0 where
  pub child : ChildPayloads
  pub nonce : Octets

abbrev pub further_request_view : FurtherRequest → FurtherRequestView
further_request_view request = record { child = offered request.offer; nonce = request.nonce.now }

-- a judgement as plain data
pub data FurtherJudgement : Type 0 where
  Refused : Notice → FurtherJudgement
  Admitted : FurtherRequestView → FurtherJudgement

abbrev pub judgement_view : Judgement → FurtherJudgement
judgement_view (judged.Refused notice) = Refused notice
judgement_view (judged.Asked request) = Admitted (further_request_view request)

-- An end may refuse to make any additional Child SA, or to rekey the IKE SA (section 1.3). Here it does, by a
-- rule of this implementation, where a key exchange is asked for, or another IKE SA in place of this one. So
-- it does also while its own request to delete this one is outstanding (section 1.4.1).
abbrev pub is_declined : List Payload → Bool → Bool
is_declined payloads deleting = has_ke payloads || list_any (offers_protocol IKE_PROTOCOL) payloads || deleting

-- exactly one of each payload that a request has to have (section 1.3.1)
abbrev pub is_complete : List Payload → Bool
is_complete payloads =
    is_some (only_sa payloads) && is_some (only_nonce payloads) && is_some (only_ts_i payloads) && is_some (only_ts_r payloads)

-- every payload that is critical is known (section 2.5), but no additional Child SA is to be made
pub record IsDeclined (payloads : List Payload) (deleting : Bool) : Type 0 where
  pub known : unknown_critical payloads ≡ None
  pub declined : is_declined payloads deleting ≡ true

-- one could be made, but the request is not complete
pub record IsIncomplete (payloads : List Payload) (deleting : Bool) : Type 0 where
  pub known : unknown_critical payloads ≡ None
  pub admitted : is_declined payloads deleting ≡ false
  pub missing : is_complete payloads ≡ false

-- what a complete request asks for
pub record AsksFor (payloads : List Payload) (deleting : Bool) (request : FurtherRequestView) : Type 0 where
  pub known : unknown_critical payloads ≡ None
  pub admitted : is_declined payloads deleting ≡ false
  pub sa : only_sa payloads ≡ Some request.child.proposals
  pub nonce : only_nonce payloads ≡ Some request.nonce
  pub ts_i : only_ts_i payloads ≡ Some request.child.ts_i
  pub ts_r : only_ts_r payloads ≡ Some request.child.ts_r

-- each judgement and when it is given, where those before it don't apply
abbrev pub IsFurtherJudgement : List Payload → Bool → FurtherJudgement → Type 0
IsFurtherJudgement payloads deleting (Refused (UnsupportedCriticalPayload kind)) = unknown_critical payloads ≡ Some kind
IsFurtherJudgement payloads deleting (Refused NoAdditionalSas) = IsDeclined payloads deleting
IsFurtherJudgement payloads deleting (Refused InvalidSyntax) = IsIncomplete payloads deleting
IsFurtherJudgement payloads deleting (Refused NoProposalChosen) = ⊥
IsFurtherJudgement payloads deleting (Refused AuthenticationFailed) = ⊥
IsFurtherJudgement payloads deleting (Refused TsUnacceptable) = ⊥
IsFurtherJudgement payloads deleting (Refused (Cookie octets)) = ⊥
IsFurtherJudgement payloads deleting (Admitted request) = AsksFor payloads deleting request

-- What the payloads of a complete request say. Only private contracts cite this.
pub record HasFurtherParts (payloads : List Payload) (request : FurtherRequest) : Type 0 where
  pub sa : only_sa payloads ≡ Some request.offer.proposals.now
  pub nonce : only_nonce payloads ≡ Some request.nonce.now
  pub ts_i : only_ts_i payloads ≡ Some request.offer.ts_i.now
  pub ts_r : only_ts_r payloads ≡ Some request.offer.ts_r.now
