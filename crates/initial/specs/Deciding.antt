-- What a responder decides about IKE_AUTH (RFC 7296 sections 1.2, 2.15 and 2.21.2).
use Rattle.std.specs.Prelude.{◌≡◌, ℕ, Option, Some, None, List}
use Rattle.wire.specs.Payloads.{SpellsChain}
use Rattle.wire.specs.Sizes.{FitsFields}
use Rattle.wire.specs.declared.payload.Payload.{Payload}
use Rattle.wire.specs.declared.payload.Payload.TheVariants.{Sa, TsI, TsR}
use Rattle.exchange.specs.Notices.{FitsNotice}
use Rattle.exchange.specs.declared.child.ChildPayloads.{ChildPayloads}
use Rattle.exchange.specs.declared.headers.Role.TheVariants.{Initiator, Responder}
use Rattle.exchange.specs.declared.notices.Notice.TheVariants.{InvalidSyntax}
use Rattle.exchange.specs.declared.sealed.Plain.{Plain}
use Rattle.sadb.specs.Database.{Database}
use Rattle.association.specs.declared.phase.HalfOpen.{HalfOpen}
use Rattle.auth.specs.Proofs.{proving_of, Accepts, ProvingView}
use Rattle.auth.specs.Requests.{Accepted, AskedView, IsAuthJudgement, Refused}
use Rattle.auth.specs.Windows.{IsWindow}
use Rattle.children.specs.Asking.{FitMessages}
use Rattle.children.specs.Responding.{IsChildResponse, LeavesRoom}
use Rattle.children.specs.declared.responding.Response.{Response}
use Rattle.children.specs.declared.responding.Response.TheVariants as response
use Rattle.setup.specs.Configs.{first_setting, Setup}
use Rattle.initial.specs.declared.deciding.Decision.{Decision}
use Rattle.initial.specs.declared.deciding.Decision.TheVariants as decision
use Rattle.exchange.specs.Chains.{IsRead}

-- what the peer of a half-open IKE SA has to prove, and what this end has
abbrev pub peer_proving : HalfOpen → ProvingView
peer_proving opened = proving_of Initiator opened.keys opened.request

abbrev pub own_proving : HalfOpen → ProvingView
own_proving opened = proving_of Responder opened.keys opened.reply

-- The peer proved its identity. Its Child SA is answered, and its window is told.
pub record AcceptsAuth (accepts : Accepts) (setup : Setup) (ike : ℕ) (opened : HalfOpen) (table : Database) (payloads : List Payload) (answer : Response) (window : ℕ) : Type 0 where
  pub asked : AskedView
  pub judged : IsAuthJudgement accepts setup.config.peer.identity (peer_proving opened) payloads (Accepted asked)
  pub child : IsChildResponse (first_setting setup.config ike opened.keys) setup.config.extended setup.entries table asked.child answer
  pub told : window ≡ asked.window

-- by what is read: what is not in the grammar is refused (section 2.21.2)
abbrev pub IsDecision : Accepts → Setup → ℕ → HalfOpen → Database → Option (List Payload) → Decision → Type 0
IsDecision accepts setup ike opened table None (decision.Refused notice) = notice ≡ InvalidSyntax
IsDecision accepts setup ike opened table None (decision.Accepted answer window) = ⊥
IsDecision accepts setup ike opened table (Some payloads) (decision.Refused notice) =
    IsAuthJudgement accepts setup.config.peer.identity (peer_proving opened) payloads (Refused notice)
IsDecision accepts setup ike opened table (Some payloads) (decision.Accepted answer window) =
    AcceptsAuth accepts setup ike opened table payloads answer window

pub record Decides (accepts : Accepts) (setup : Setup) (ike : ℕ) (opened : HalfOpen) (table : Database) (plain : Plain) (decided : Decision) : Type 0 where
  pub payloads : Option (List Payload)
  pub read : IsRead plain payloads
  pub due : IsDecision accepts setup ike opened table payloads decided

-- what answers the Child SA can be sent
abbrev pub FitsResponse : Response → Type 0
FitsResponse (response.Made made) = FitMessages made.payloads
FitsResponse (response.Refused notice) = FitsNotice notice

-- so can what answers the request
abbrev pub FitsDecision : Decision → Type 0
FitsDecision (decision.Refused notice) = FitsNotice notice
FitsDecision (decision.Accepted answer window) = FitsResponse answer × IsWindow window

-- the table can take the SA pair, where a Child SA is made
abbrev pub LeavesRoomFor : Decision → Database → Type 0
LeavesRoomFor (decision.Refused notice) table = Unit
LeavesRoomFor (decision.Accepted answer window) table = LeavesRoom answer table
