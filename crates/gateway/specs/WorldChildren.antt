-- The Child SAs that both ends of a world made: of which messages each was made, and that those of one
-- request mirror each other (RFC 7296 sections 1.2, 1.3.1, 2.1, 2.9, 2.17 and 3.14; RFC 4301 sections 4.1
-- and 4.4.2).
use Rattle.std.specs.Prelude.{◌≡◌, ◌⊎◌, ℕ, Bool, true, false, List, [], ◌∷◌, Contains, Some, length}
use Rattle.std.specs.FinMap as map
use Rattle.base.specs.Octets.{Octets}
use Rattle.wire.specs.declared.message.Message.{Message}
use Rattle.wire.specs.declared.payload.Payload.{Payload}
use Rattle.wire.specs.declared.proposal.Proposal.{Proposal}
use Rattle.suite.specs.declared.key_record.KeyRecord.{KeyRecord}
use Rattle.suite.specs.declared.keys.Keys.{Keys}
use Rattle.exchange.specs.Counting.{only_sa}
use Rattle.exchange.specs.declared.headers.Role.TheVariants.{Initiator, Responder}
use Rattle.sadb.specs.declared.pair.Pair.{Pair}
use Rattle.association.specs.AskedChildren.{asked_of}
use Rattle.association.specs.Receiving.{Opening}
use Rattle.association.specs.declared.phase.Association.{Association}
use Rattle.association.specs.declared.phase.AuthSent.{AuthSent}
use Rattle.association.specs.declared.phase.Phase.TheVariants as phase
use Rattle.association.specs.declared.phase.Request.{Request}
use Rattle.association.specs.declared.purpose.FurtherChild.{FurtherChild}
use Rattle.association.specs.declared.purpose.Purpose.TheVariants.{CreateChild}
use Rattle.children.specs.Asking.{child_request, HasChildPayloads}
use Rattle.further.specs.Payloads.{further_payloads}
use Rattle.effects.specs.Children.{exchange_of_child, ChildKind, First, Further, IsChildOf}
use Rattle.ike.specs.Payloads.{OpensToPayloads, SealsPayloads}
use Rattle.gateway.specs.WorldParties.{HasSent, HoldsUnder}
use Rattle.gateway.specs.Worlds.{other_end, simplex_of, Stored, WorldState}
use Rattle.gateway.specs.declared.world.stored.Child.{Child}
use Rattle.gateway.specs.declared.world.stored.End.{End}

-- ---- Child SAs

-- this is what was stored of the pair: the parts that never change while it is installed
pub record IsStoredOf (child : Child) (pair : Pair) : Type 0 where
  pub inbound : child.inbound ≡ simplex_of pair.inbound.association
  pub outbound : child.outbound ≡ simplex_of pair.outbound.association
  pub local : child.local ≡ pair.local
  pub remote : child.remote ≡ pair.remote

-- The end asked for the Child SA. It sent a request with the child's Message ID that seals an offer of one
-- proposal, and the other end sent a response that opens. The child is what the asking end has by the
-- payloads of both.
pub record WasAskedFor (body_of : Keys → Octets → Octets → Octets → Octets) (plain_of : Opening) (child : Child) (stored : Stored) : Type 0 where
  pub kind : ChildKind
  pub request : Octets
  pub requested : HasSent child.end child.keys false child.number request stored
  pub asks : List Payload
  pub sealed : SealsPayloads body_of child.keys (exchange_of_child kind) false child.number asks request
  pub proposal : Proposal
  pub offers : only_sa asks ≡ Some (proposal ∷ [])
  pub response : Octets
  pub responded : HasSent (other_end child.end) child.keys true child.number response stored
  pub answers : List Payload
  pub opened : OpensToPayloads plain_of child.keys (exchange_of_child kind) true child.number answers response
  pub pair : Pair
  pub stored_of : IsStoredOf child pair
  pub is : IsChildOf kind Initiator child.keys asks answers pair

-- The end answered for the Child SA. The other end sent a request with the child's Message ID that opens, and
-- this end a response that seals payloads. The child is what the answering end has by the payloads of both.
pub record WasAnsweredFor (body_of : Keys → Octets → Octets → Octets → Octets) (plain_of : Opening) (child : Child) (stored : Stored) : Type 0 where
  pub kind : ChildKind
  pub request : Octets
  pub requested : HasSent (other_end child.end) child.keys false child.number request stored
  pub asks : List Payload
  pub opened : OpensToPayloads plain_of child.keys (exchange_of_child kind) false child.number asks request
  pub response : Octets
  pub responded : HasSent child.end child.keys true child.number response stored
  pub answers : List Payload
  pub sealed : SealsPayloads body_of child.keys (exchange_of_child kind) true child.number answers response
  pub pair : Pair
  pub stored_of : IsStoredOf child pair
  pub is : IsChildOf kind Responder child.keys asks answers pair

-- by whether the end asked
abbrev pub WasMade : Bool → (Keys → Octets → Octets → Octets → Octets) → Opening → Child → Stored → Type 0
WasMade true body_of plain_of child stored = WasAskedFor body_of plain_of child stored
WasMade false body_of plain_of child stored = WasAnsweredFor body_of plain_of child stored

-- ---- what waits for its answer

-- this end sent a request under these keys that seals these payloads
pub record SentRequest (body_of : Keys → Octets → Octets → Octets → Octets) (keys : KeyRecord) (end : End) (exchange number : ℕ) (payloads : List Payload) (stored : Stored) : Type 0 where
  pub octets : Octets
  pub sent : HasSent end keys false number octets stored
  pub sealed : SealsPayloads body_of keys exchange false number payloads octets

-- An end that waits for the response of IKE_AUTH sent a request 1 that asks for the Child SA that it waits
-- for. One that waits for an additional child sent the request of that Message ID which asks for it. (What
-- was asked is forgotten once the child is made, so it is recorded here, while the response is
-- outstanding.)
pub record AsksForItsChildren (body_of : Keys → Octets → Octets → Octets → Octets) (keys : KeyRecord) (end : End) (a : Association) (stored : Stored) : Type 0 where
  pub first : (sent : AuthSent) → a.phase ≡ phase.AuthSent sent
      → (asks : List Payload) × HasChildPayloads asks (child_request (asked_of sent.child)) × SentRequest body_of keys end (exchange_of_child First) 1 asks stored
  pub further : (number : ℕ) (request : Request) (further : FurtherChild) → map.get a.outgoing.outstanding number ≡ Some request → request.purpose ≡ CreateChild further
      → SentRequest body_of keys end (exchange_of_child Further) number (further_payloads (child_request (asked_of further.child)) further.nonce) stored

-- ---- both ends

-- The invariant of the Child SAs under a key record, beside that the world is sound under it. An end that
-- holds an IKE SA asked for the children that it waits for, and each child that was made was asked for or
-- answered by its end. `stored` is what is stored of this world or of a later one: what counts as sent
-- stands there.
pub record AccountsForChildren {C : Type 0} (body_of : Keys → Octets → Octets → Octets → Octets) (plain_of : Opening) (keys : KeyRecord) (w : WorldState C) (stored : Stored) : Type 0 where
  pub asks : (end : End) (a : Association) → HoldsUnder keys end w a → AsksForItsChildren body_of keys end a stored
  pub made : (child : Child) → Contains w.stored.children child → child.keys ≡ keys → WasMade child.asked body_of plain_of child stored

-- one end asked for the Child SA by a request, and the other end answered it, under one key record
pub record AreOfOneRequest (asked answered : Child) : Type 0 where
  pub keys : answered.keys ≡ asked.keys
  pub ends : answered.end ≡ other_end asked.end
  pub asked_is : asked.asked ≡ true
  pub answered_is : answered.asked ≡ false
  pub number : answered.number ≡ asked.number

-- both ends made this Child SA, whichever asked
abbrev pub AreEndsOfOneChild : Child → Child → Type 0
AreEndsOfOneChild one other = AreOfOneRequest one other ⊎ AreOfOneRequest other one

-- What one end sends by the Child SA, the other receives by it, under the same SPI and key. Both directions
-- have ESN or neither has (RFC 4303 section 2.2.1), and what is local to one is remote to the other.
pub record MirrorEachOther (one other : Child) : Type 0 where
  pub inward : one.inbound ≡ other.outbound
  pub outward : one.outbound ≡ other.inbound
  pub extension : one.inbound.extended ≡ one.outbound.extended
  pub local : one.local ≡ other.remote
  pub remote : one.remote ≡ other.local

-- the Child SAs of one request under these keys that both ends made mirror each other
abbrev pub ChildrenMirror : {C : Type 0} → KeyRecord → WorldState C → Type 0
ChildrenMirror {C} keys w =
    (asked answered : Child) → Contains w.stored.children asked → Contains w.stored.children answered → asked.keys ≡ keys → AreOfOneRequest asked answered → MirrorEachOther asked answered
