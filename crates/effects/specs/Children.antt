-- What a Child SA is at each end, and of which messages it is made: the first one of an IKE SA, and
-- additional ones (RFC 7296 sections 1.2, 1.3.1, 2.9 and 2.17).
use Rattle.std.specs.Prelude.{◌≡◌, ◌⊎◌, ℕ, true, false, Option, Some, None, List}
use Rattle.std.specs.FinMap as map
use Rattle.base.specs.Octets.{Octets}
use Rattle.base.specs.declared.selector.Selector.{Selector}
use Rattle.wire.specs.Numbers.{CREATE_CHILD_SA, IKE_AUTH}
use Rattle.wire.specs.Payloads.{SpellsChain}
use Rattle.wire.specs.declared.message.Message.{Message}
use Rattle.wire.specs.declared.payload.Payload.{Payload}
use Rattle.suite.specs.Keys.{first_child_keys}
use Rattle.suite.specs.declared.key_record.KeyRecord.{KeyRecord}
use Rattle.suite.specs.declared.keys.Keys.{Keys}
use Rattle.exchange.specs.Headers.{keys_of, sent_header}
use Rattle.exchange.specs.Sealed.{IsSealed}
use Rattle.exchange.specs.declared.child.ChildPayloads.{ChildPayloads}
use Rattle.exchange.specs.declared.headers.Role.{Role}
use Rattle.exchange.specs.declared.headers.Role.TheVariants.{Initiator, Responder}
use Rattle.exchange.specs.declared.sealed.Plain.{Plain}
use Rattle.policy.specs.Narrowing.{AnswersOffer, IsNarrowing, LieInsidePolicy}
use Rattle.sadb.specs.Database.{pair_at, Database}
use Rattle.sadb.specs.declared.pair.Pair.{Pair}
use Rattle.association.specs.AskedChildren.{asked_of, AskedChildView}
use Rattle.association.specs.Receiving.{opened_by}
use Rattle.association.specs.declared.phase.Association.{Association}
use Rattle.association.specs.declared.phase.AuthSent.{AuthSent}
use Rattle.association.specs.declared.phase.Phase.{Phase}
use Rattle.association.specs.declared.phase.Phase.TheVariants as phase
use Rattle.association.specs.declared.phase.Request.{Request}
use Rattle.association.specs.declared.purpose.FurtherChild.{FurtherChild}
use Rattle.association.specs.declared.purpose.Purpose.TheVariants.{CreateChild, Identify}
use Rattle.children.specs.Accepting.{KeepsToRequest}
use Rattle.children.specs.Asking.{child_request, HasChildPayloads}
use Rattle.children.specs.Pairs.{HasFewSelectors, IsChild}
use Rattle.association.specs.Sending.{reply_message, request_message}
use Rattle.setup.specs.Configs.{Setup}
use Rattle.association.specs.Issuing.{new_request}
use Rattle.create_child.specs.Asking.{wanted}
use Rattle.further.specs.Pairs.{IsFurtherChild}
use Rattle.further.specs.Payloads.{further_payloads}
use Rattle.effects.specs.Pairs.{IsUnused}
use Rattle.effects.specs.Taking.{Meaning}
use Rattle.association.specs.declared.outcome.Answered.{Answered}
use Rattle.effects.specs.declared.taking.Effect.{Effect}
use Rattle.effects.specs.declared.taking.Effect.TheVariants as effect

-- the first Child SA of an IKE SA, by IKE_AUTH, or an additional one, by CREATE_CHILD_SA
pub data ChildKind : Type 0 where
  First : ChildKind
  Further : ChildKind

abbrev pub exchange_of_child : ChildKind → ℕ
exchange_of_child First = IKE_AUTH
exchange_of_child Further = CREATE_CHILD_SA

-- the SA pair that the end with this role in its exchange has of the Child SA, under the IKE SA's keys
abbrev pub IsChildOf : ChildKind → Role → KeyRecord → List Payload → List Payload → Pair → Type 0
IsChildOf First role keys request reply pair = IsChild role (first_child_keys keys) request reply pair
IsChildOf Further role keys request reply pair = IsFurtherChild role keys request reply pair

-- A Child SA is new: its IKE SA is established, its SA pair has the next serial, with no sequence number sent
-- or taken, and no other pair is new.
pub record BringsChild (ike serial : ℕ) (table : Database) (keys : KeyRecord) (pair : Pair) (new : Association) (new_table : Database) : Type 0 where
  pub established : new.phase ≡ phase.Established keys
  pub in_order : serial ≡ table.next
  pub there : pair_at new_table.pairs serial ≡ Some pair
  pub unused : IsUnused ike pair
  pub alone : (other : ℕ) (pair : Pair) → pair_at new_table.pairs other ≡ Some pair → (pair_at table.pairs other ≡ Some pair) ⊎ (other ≡ serial)

-- The responder's SA pair of a Child SA. It is made of the request and of its response under the IKE SA's
-- keys. Its selectors are few, and lie inside those offered and inside one entry that protects: they are what
-- the policy narrows the offer to. It has ESN only where that is allowed.
pub record IsAnsweredChild (kind : ChildKind) (setup : Setup) (keys : KeyRecord) (request reply : List Payload) (pair : Pair) : Type 0 where
  pub child : IsChildOf kind Responder keys request reply pair
  pub offer : ChildPayloads
  pub offered : HasChildPayloads request offer
  pub remote : AnswersOffer pair.remote offer.ts_i
  pub local : AnswersOffer pair.local offer.ts_r
  pub protected : LieInsidePolicy setup.entries pair.remote pair.local
  pub narrowed : IsNarrowing setup.entries offer.ts_i offer.ts_r pair.remote pair.local
  pub extension : pair.inbound.association.extended ≡ true → setup.config.extended ≡ true
  pub few : HasFewSelectors pair

-- The initiator's SA pair of a first Child SA: it is made of the response and of whatever request asked for
-- this child, and keeps to what was asked.
pub record IsAskedChild (child : AskedChildView) (keys : KeyRecord) (reply : List Payload) (pair : Pair) : Type 0 where
  pub made : (request : List Payload) → HasChildPayloads request (child_request (asked_of child)) → IsChild Initiator (first_child_keys keys) request reply pair
  pub keeps : KeepsToRequest (asked_of child) pair
  pub few : HasFewSelectors pair

-- The SA pair of the end that asked for an additional Child SA: it is made of the response and of the request
-- that asked for this child with this nonce, and keeps to what was asked.
pub record IsAskedFurther (further : FurtherChild) (keys : KeyRecord) (reply : List Payload) (pair : Pair) : Type 0 where
  pub made : IsFurtherChild Initiator keys (further_payloads (child_request (asked_of further.child)) further.nonce) reply pair
  pub keeps : KeepsToRequest (asked_of further.child) pair
  pub few : HasFewSelectors pair

-- the IKE SA under which this end may answer a request for a Child SA, with its keys
abbrev pub MayAnswer : ChildKind → Phase → KeyRecord → Type 0
MayAnswer First (phase.HalfOpen opened) keys = opened.keys ≡ keys
MayAnswer First _ keys = ⊥
MayAnswer Further (phase.Established known) keys = known ≡ keys
MayAnswer Further _ keys = ⊥

-- A responder made it, by a request of its exchange: of the payloads that the request opened to, and of
-- those that were sealed in its response.
pub record AnswersForChild (kind : ChildKind) (meaning : Meaning) (setup : Setup) (old : Association) (octets : Octets) (m : Message) (answered : Answered) (keys : KeyRecord) (pair : Pair) : Type 0 where
  pub exchange : m.header.exchange ≡ exchange_of_child kind
  pub asked : m.header.flags.response ≡ false
  pub was : MayAnswer kind old.phase keys
  pub plain : Plain
  pub opened : opened_by meaning.plain_of old octets m.payloads ≡ Some plain
  pub request : List Payload
  pub read : SpellsChain plain.first request plain.octets
  pub reply : List Payload
  pub sealed : IsSealed meaning.body_of (keys_of old.role keys) setup.fresh.seal (reply_message old (exchange_of_child kind) m.header.id reply) answered.octets
  pub is : IsAnsweredChild kind setup keys request reply pair

-- An initiator made its first Child SA: the one that it waited for, by the request with the response's
-- Message ID, of the payloads that the response opened to.
pub record EndsWithChild (meaning : Meaning) (old : Association) (octets : Octets) (m : Message) (keys : KeyRecord) (pair : Pair) : Type 0 where
  pub exchange : m.header.exchange ≡ exchange_of_child First
  pub response : m.header.flags.response ≡ true
  pub request : Request
  pub outstanding : map.get old.outgoing.outstanding m.header.id ≡ Some request
  pub asked : request.purpose ≡ Identify
  pub sent : AuthSent
  pub was : old.phase ≡ phase.AuthSent sent
  pub same_keys : sent.keys ≡ keys
  pub plain : Plain
  pub opened : opened_by meaning.plain_of old octets m.payloads ≡ Some plain
  pub reply : List Payload
  pub read : SpellsChain plain.first reply plain.octets
  pub is : IsAskedChild sent.child keys reply pair

-- An end made an additional Child SA that it asked for: by the request with the response's Message ID, of the
-- payloads that the response opened to.
pub record EndsWithFurther (meaning : Meaning) (old : Association) (octets : Octets) (m : Message) (keys : KeyRecord) (pair : Pair) : Type 0 where
  pub exchange : m.header.exchange ≡ exchange_of_child Further
  pub response : m.header.flags.response ≡ true
  pub was : old.phase ≡ phase.Established keys
  pub request : Request
  pub outstanding : map.get old.outgoing.outstanding m.header.id ≡ Some request
  pub further : FurtherChild
  pub asked : request.purpose ≡ CreateChild further
  pub plain : Plain
  pub opened : opened_by meaning.plain_of old octets m.payloads ≡ Some plain
  pub reply : List Payload
  pub read : SpellsChain plain.first reply plain.octets
  pub is : IsAskedFurther further keys reply pair

-- by what came of the message
abbrev pub MadeBy : Meaning → Setup → Association → Octets → Message → Effect → KeyRecord → Pair → Type 0
MadeBy meaning setup old octets m (effect.Refused fault) keys pair = ⊥
MadeBy meaning setup old octets m (effect.Repeated said) keys pair = ⊥
MadeBy meaning setup old octets m (effect.Replied answered) keys pair = (kind : ChildKind) × AnswersForChild kind meaning setup old octets m answered keys pair
MadeBy meaning setup old octets m (effect.Again next) keys pair = ⊥
MadeBy meaning setup old octets m (effect.AsksAuth next) keys pair = ⊥
MadeBy meaning setup old octets m (effect.Counted ended) keys pair = EndsWithChild meaning old octets m keys pair ⊎ EndsWithFurther meaning old octets m keys pair

-- A message made a Child SA, under this serial.
pub record MakesChild (meaning : Meaning) (setup : Setup) (old : Association) (table : Database) (octets : Octets) (m : Message) (e : Effect) (serial : ℕ) (new : Association) (new_table : Database) : Type 0 where
  pub keys : KeyRecord
  pub pair : Pair
  pub brings : BringsChild old.serial serial table keys pair new new_table
  pub made : MadeBy meaning setup old octets m e keys pair

-- the first Child SA that an initiator waits for, from the request of IKE_SA_INIT on
abbrev pub first_asked : Phase → Option AskedChildView
first_asked (phase.InitSent sent) = Some sent.child
first_asked (phase.AuthSent sent) = Some sent.child
first_asked _ = None

-- An initiator asked for its first Child SA. The payloads of IKE_AUTH, sealed under its keys and kept as
-- request 1, ask for the child that it waits for from then on.
pub record AsksForChild (meaning : Meaning) (setup : Setup) (octets : Octets) (new : Association) : Type 0 where
  pub sent : AuthSent
  pub waits : new.phase ≡ phase.AuthSent sent
  pub request : List Payload
  pub asks : HasChildPayloads request (child_request (asked_of sent.child))
  pub sealed : IsSealed meaning.body_of (keys_of new.role sent.keys) setup.fresh.seal (record { header = sent_header new.spi_i new.spi_r IKE_AUTH new.role false 1; payloads = request }) octets
  pub kept : map.get new.outgoing.outstanding 1 ≡ Some (new_request octets Identify setup.moment)

-- An end asked for an additional Child SA. The payloads of CREATE_CHILD_SA, sealed under the IKE SA's keys
-- and kept as the request with this Message ID, ask for the child with the nonce that it waits for from then
-- on. The command fixes the child: an SPI, selectors of both sides, the configuration, and this step's nonce.
pub record AsksForFurtherChild (body_of : Keys → Octets → Octets → Octets → Octets) (setup : Setup) (number : ℕ) (octets : Octets) (new : Association) : Type 0 where
  pub keys : KeyRecord
  pub established : new.phase ≡ phase.Established keys
  pub further : FurtherChild
  pub sealed : IsSealed body_of (keys_of new.role keys) setup.fresh.seal
      (request_message new CREATE_CHILD_SA number (further_payloads (child_request (asked_of further.child)) further.nonce)) octets
  pub kept : map.get new.outgoing.outstanding number ≡ Some (new_request octets (CreateChild further) setup.moment)
  pub spi : ℕ
  pub local : Selector
  pub remote : Selector
  pub is : further ≡ wanted setup spi local remote

-- the effect by which an initiator asks
pub record IsAsking (e : Effect) : Type 0 where
  pub octets : Octets
  pub is : e ≡ effect.AsksAuth octets
