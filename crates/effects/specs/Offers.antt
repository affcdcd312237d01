-- What an answer takes of an offer (RFC 7296 sections 2.7 and 3.3.1).
use Rattle.std.specs.Prelude.{◌≡◌, ℕ, Some, List, [], ◌∷◌, All, Contains, slice_get}
use Rattle.base.specs.Octets.{Octets}
use Rattle.wire.specs.Messages.{SpellsPlainly}
use Rattle.wire.specs.Payloads.{SpellsChain}
use Rattle.wire.specs.declared.message.Message.{Message}
use Rattle.wire.specs.declared.payload.Payload.{Payload}
use Rattle.wire.specs.declared.payload.Payload.TheVariants.{Sa}
use Rattle.wire.specs.declared.proposal.Proposal.{Proposal}
use Rattle.suite.specs.declared.key_record.KeyRecord.{KeyRecord}
use Rattle.suite.specs.declared.keys.Keys.{Keys}
use Rattle.exchange.specs.Counting.{only_sa}
use Rattle.exchange.specs.Headers.{keys_of}
use Rattle.suite.specs.Offers.{count_of_kind}
use Rattle.exchange.specs.Sealed.{IsSealed}
use Rattle.exchange.specs.declared.sealed.Plain.{Plain}
use Rattle.association.specs.Phases.{keys_in}
use Rattle.association.specs.Receiving.{opened_by}
use Rattle.association.specs.declared.phase.Association.{Association}
use Rattle.association.specs.Sending.{reply_message}
use Rattle.setup.specs.Configs.{Setup}
use Rattle.effects.specs.Taking.{Meaning}

-- One proposal answers: it has the number and the protocol of one that was offered, and one transform of
-- each of its types, taken from it.
pub record AnswersOneOf (offered answered : List Proposal) : Type 0 where
  pub answer : Proposal
  pub lone : answered ≡ answer ∷ []
  pub place : ℕ
  pub proposal : Proposal
  pub there : slice_get offered place ≡ Some proposal
  pub number : answer.number ≡ proposal.number
  pub protocol : answer.protocol ≡ proposal.protocol
  pub taken : All (λ transform. Contains proposal.transforms transform) answer.transforms
  pub one_each : All (λ transform. count_of_kind answer.transforms transform.kind ≡ 1) proposal.transforms

-- these proposals answer the only SA payload of a request
pub record AnswersSa (request : List Payload) (answered : List Proposal) : Type 0 where
  pub offered : List Proposal
  pub sa : only_sa request ≡ Some offered
  pub one : AnswersOneOf offered answered

-- the answer to IKE_SA_INIT has an SA payload that answers the request's
pub record AnswersInitialSa (request : List Payload) (octets : Octets) : Type 0 where
  pub reply : Message
  pub spelled : SpellsPlainly reply octets
  pub answered : List Proposal
  pub sa : only_sa reply.payloads ≡ Some answered
  pub answers : AnswersSa request answered

-- the proposals answer the SA payload of what a request opened to
pub record AnswersPlain (plain : Plain) (answered : List Proposal) : Type 0 where
  pub request : List Payload
  pub read : SpellsChain plain.first request plain.octets
  pub answers : AnswersSa request answered

-- each SA payload in the answer to a request of this exchange under keys answers the request's
pub record AnswersSealedSa (exchange : ℕ) (body_of : Keys → Octets → Octets → Octets → Octets) (setup : Setup) (old : Association) (number : ℕ) (plain : Plain) (octets : Octets) : Type 0 where
  pub keys : KeyRecord
  pub are : keys_in old.phase ≡ Some keys
  pub reply : List Payload
  pub sealed : IsSealed body_of (keys_of old.role keys) setup.fresh.seal (reply_message old exchange number reply) octets
  pub answers : (answered : List Proposal) → Contains reply (Sa answered) → AnswersPlain plain answered

-- each SA payload in the answer to a message under keys answers that of what the message opened to
pub record AnswersMessageSa (meaning : Meaning) (setup : Setup) (old : Association) (octets : Octets) (m : Message) (said : Octets) : Type 0 where
  pub plain : Plain
  pub opened : opened_by meaning.plain_of old octets m.payloads ≡ Some plain
  pub answers : AnswersSealedSa m.header.exchange meaning.body_of setup old m.header.id plain said
