-- What a responder decides about a request for an additional Child SA (RFC 7296 sections 1.3.1, 2.9, 2.17 and
-- 2.21.3).
use Rattle.std.specs.Prelude.{◌≡◌, ℕ, Bool, true, false, Option, Some, None, List}
use Rattle.base.specs.Octets.{Octets}
use Rattle.wire.specs.declared.payload.Payload.{Payload}
use Rattle.suite.specs.Keys.{child_keys}
use Rattle.suite.specs.declared.key_record.KeyRecord.{KeyRecord}
use Rattle.exchange.specs.declared.notices.Notice.{Notice}
use Rattle.exchange.specs.declared.notices.Notice.TheVariants.{UnsupportedCriticalPayload, InvalidSyntax, NoProposalChosen, AuthenticationFailed, NoAdditionalSas, TsUnacceptable, Cookie}
use Rattle.exchange.specs.declared.sealed.Plain.{Plain}
use Rattle.sadb.specs.Database.{Database}
use Rattle.children.specs.Responding.{IsChildResponse, LeavesRoom}
use Rattle.children.specs.declared.responding.Response.{Response}
use Rattle.children.specs.declared.responding.Response.TheVariants as response
use Rattle.children.specs.declared.setting.Setting.{Setting}
use Rattle.setup.specs.Configs.{Setup}
use Rattle.exchange.specs.Chains.{IsRead}
use Rattle.further.specs.Answering.{answer_to_further, FitsAnswer}
use Rattle.further.specs.Judging.{Admitted, FurtherJudgement, FurtherRequestView, IsFurtherJudgement, Refused}
use Rattle.further.specs.declared.deciding.Decision.{Decision}
use Rattle.further.specs.declared.deciding.Decision.TheVariants as decision

-- What an additional Child SA is made on: keys come from the IKE SA's SK_d and the nonces of the exchange,
-- its initiator's first (section 2.17).
abbrev pub further_setting : ℕ → ℕ → KeyRecord → Octets → Octets → Setting
further_setting blocks ike keys ni nr = record { ike = ike; keys = child_keys keys.sk_d ni nr; blocks = blocks }

-- what the Child SA of a request is made on, with this end's own nonce as the responder's
abbrev pub responder_setting : Setup → ℕ → KeyRecord → FurtherRequestView → Setting
responder_setting setup ike keys request = further_setting setup.config.blocks ike keys request.nonce setup.fresh.nonce

-- a decision, as the answer to the Child SA that is offered
abbrev pub response_of : Decision → Response
response_of (decision.Refused notice) = response.Refused notice
response_of (decision.Made made) = response.Made made

-- by a judgement: what it refuses is refused so, and what is asked for is answered as the first Child SA of
-- an IKE SA is
abbrev pub DecidesFurtherBy : Setup → ℕ → KeyRecord → Database → FurtherJudgement → Decision → Type 0
DecidesFurtherBy setup ike keys table (Refused notice) (decision.Refused told) = told ≡ notice
DecidesFurtherBy setup ike keys table (Refused notice) (decision.Made made) = ⊥
DecidesFurtherBy setup ike keys table (Admitted request) decided =
    IsChildResponse (responder_setting setup ike keys request) setup.config.extended setup.entries table request.child (response_of decided)

-- by the payloads, while a request of this end to delete the IKE SA is outstanding or not
pub record DecidesFurtherOn (setup : Setup) (ike : ℕ) (keys : KeyRecord) (table : Database) (deleting : Bool) (payloads : List Payload) (decided : Decision) : Type 0 where
  pub judgement : FurtherJudgement
  pub judged : IsFurtherJudgement payloads deleting judgement
  pub due : DecidesFurtherBy setup ike keys table judgement decided

-- by what is read: what is not in the grammar is refused (section 2.21.3)
abbrev pub IsFurtherDecision : Setup → ℕ → KeyRecord → Database → Bool → Option (List Payload) → Decision → Type 0
IsFurtherDecision setup ike keys table deleting None (decision.Refused notice) = notice ≡ InvalidSyntax
IsFurtherDecision setup ike keys table deleting None (decision.Made made) = ⊥
IsFurtherDecision setup ike keys table deleting (Some payloads) decided = DecidesFurtherOn setup ike keys table deleting payloads decided

pub record DecidesFurther (setup : Setup) (ike : ℕ) (keys : KeyRecord) (table : Database) (deleting : Bool) (plain : Plain) (decided : Decision) : Type 0 where
  pub payloads : Option (List Payload)
  pub read : IsRead plain payloads
  pub due : IsFurtherDecision setup ike keys table deleting payloads decided

-- refused by what the request says, whatever policy and table hold
abbrev pub IsRefusedFurther : Bool → Option (List Payload) → Type 0
IsRefusedFurther deleting None = Unit {0}
IsRefusedFurther deleting (Some payloads) = (notice : Notice) × IsFurtherJudgement payloads deleting (Refused notice)

pub record IsFurtherRefusedAtOnce (deleting : Bool) (plain : Plain) : Type 0 where
  pub payloads : Option (List Payload)
  pub read : IsRead plain payloads
  pub refused : IsRefusedFurther deleting payloads

-- what is decided can be sent
abbrev pub FitsFurtherDecision : Decision → Type 0
FitsFurtherDecision decided = FitsAnswer (answer_to_further decided)

-- the table can take the SA pair, where a Child SA is made
abbrev pub LeavesRoomForFurther : Decision → Database → Type 0
LeavesRoomForFurther decided table = LeavesRoom (response_of decided) table

-- INVALID_SYNTAX alone ends the IKE SA (section 2.21.3)
abbrev pub ends_association : Notice → Bool
ends_association InvalidSyntax = true
ends_association (UnsupportedCriticalPayload kind) = false
ends_association NoProposalChosen = false
ends_association AuthenticationFailed = false
ends_association NoAdditionalSas = false
ends_association TsUnacceptable = false
ends_association (Cookie octets) = false

abbrev pub is_closing_decision : Decision → Bool
is_closing_decision (decision.Refused notice) = ends_association notice
is_closing_decision (decision.Made made) = false
