-- The peer's requests of one IKE SA: which octets are one, which are processed, and what holds of the cached
-- responses (RFC 7296 sections 2.1 to 2.3 and 3.1).
use Rattle.std.specs.Prelude.{◌≡◌, ◌≢◌, ◌⊎◌, ◌≤◌, ℕ, Bool, true, false, Some, List, max}
use Rattle.std.specs.FinMap as map
use Rattle.base.specs.Octets.{Octets}
use Rattle.wire.specs.Messages.{Spells}
use Rattle.wire.specs.Payloads.{SpellsChain}
use Rattle.wire.specs.declared.message.Message.{Message}
use Rattle.wire.specs.declared.payload.Payload.{Payload}
use Rattle.exchange.specs.declared.headers.Role.TheVariants.{Initiator}
use Rattle.exchange.specs.declared.sealed.Plain.{Plain}
use Rattle.requests.specs.Incoming.{IsFreshRequest, IsLeftBehind}
use Rattle.requests.specs.Numbers.{HasNumber}
use Rattle.association.specs.Finding.{has_pair, sent_by_other}
use Rattle.association.specs.Receiving.{admits, opened_by, Opening}
use Rattle.association.specs.declared.phase.Association.{Association}
use Rattle.association.specs.declared.phase.Phase.{Phase}
use Rattle.association.specs.declared.phase.Phase.TheVariants.{Established, Closed}
use Rattle.auth.specs.Windows.{peer_window, WINDOW_LIMIT}
use Rattle.association.specs.Phases.{IsEstablished}
use Rattle.initial.specs.Answering.{IsHalfOpen}
use Rattle.initial.specs.Ending.{IsAuthSent}
use Rattle.initial.specs.Reading.{IsInitSent}
use Rattle.association.specs.declared.outcome.Answered.{Answered}
use Rattle.effects.specs.Keeping.{HasKeys}
use Rattle.effects.specs.Waiting.{AreIssued, TookFirstRequest, TookNoRequest, SuitPhase}
use Rattle.effects.specs.declared.taking.Effect.{Effect}
use Rattle.effects.specs.declared.taking.Effect.TheVariants as effect

-- The octets open as this request of the IKE SA: they spell a message with its SPIs, from the peer by the
-- flag I, with R clear, whose only payload is an encrypted one that opens under the peer's keys.
pub record OpensAs (plain_of : Opening) (a : Association) (octets : Octets) (exchange number : ℕ) : Type 0 where
  pub message : Message
  pub spelled : Spells message octets
  pub spis : has_pair message.header a ≡ true
  pub from_peer : sent_by_other a.role message.header.flags.initiator ≡ true
  pub request : message.header.flags.response ≡ false
  pub exchange_is : message.header.exchange ≡ exchange
  pub number_is : message.header.id ≡ number
  pub plain : Plain
  pub opened : opened_by plain_of a octets message.payloads ≡ Some plain

-- it is processed if it comes: its Message ID is not in effect and lies in the window, and its exchange
-- belongs to the phase
pub record IsNew (plain_of : Opening) (a : Association) (octets : Octets) (number : ℕ) : Type 0 where
  pub exchange : ℕ
  pub opens : OpensAs plain_of a octets exchange number
  pub fresh : IsFreshRequest a.incoming number
  pub admitted : admits a.phase exchange ≡ true

-- a message that put this Message ID into effect: a new request, which was answered, and its response is
-- cached
pub record PutsIntoEffect (plain_of : Opening) (old : Association) (octets : Octets) (m : Message) (e : Effect) (new : Association) (number : ℕ) : Type 0 where
  pub request : m.header.flags.response ≡ false
  pub number_is : m.header.id ≡ number
  pub fresh : IsFreshRequest old.incoming number
  pub admitted : admits old.phase m.header.exchange ≡ true
  pub plain : Plain
  pub opened : opened_by plain_of old octets m.payloads ≡ Some plain
  pub answered : Answered
  pub said : e ≡ effect.Replied answered
  pub kept : map.get new.incoming.kept number ≡ Some answered.octets

-- a message that is dropped, or a retransmission, which gets the cached response
abbrev pub IsPassing : Effect → Type 0
IsPassing (effect.Refused fault) = Unit {0}
IsPassing (effect.Repeated reply) = Unit {0}
IsPassing (effect.Replied answered) = ⊥
IsPassing (effect.Again octets) = ⊥
IsPassing (effect.AsksAuth octets) = ⊥
IsPassing (effect.Counted ended) = ⊥

-- IKE_AUTH is done, or the IKE SA is closed
abbrev pub is_concluded : Phase → Bool
is_concluded (Established keys) = true
is_concluded (Closed keys at) = true
is_concluded _ = false

-- The invariant of an IKE SA's requests. Responses are kept of Message IDs in effect that are not below the
-- window, and of none before IKE_AUTH is done. An initiator that has keys knows the responder's SPI. What
-- is outstanding belongs to the phase, and was issued. One that waits for the response to IKE_SA_INIT or to
-- IKE_AUTH took no request yet, and one that waits for the request of IKE_AUTH took that of IKE_SA_INIT
-- alone. The peer's window is 16 at most.
pub record IsSoundlyHeld (a : Association) : Type 0 where
  pub in_effect : (number : ℕ) (reply : Octets) → map.get a.incoming.kept number ≡ Some reply → HasNumber a.incoming.in_effect number
  pub near : (number : ℕ) (reply : Octets) → map.get a.incoming.kept number ≡ Some reply → ¬ IsLeftBehind a.incoming number
  pub concluded : (number : ℕ) (reply : Octets) → map.get a.incoming.kept number ≡ Some reply → is_concluded a.phase ≡ true
  pub named : HasKeys a.phase → a.role ≡ Initiator → a.spi_r ≢ 0
  pub waits : SuitPhase a.phase a.outgoing.outstanding
  pub issued : AreIssued a.outgoing
  pub took_none : IsInitSent a.phase ⊎ IsAuthSent a.phase → TookNoRequest a
  pub took_first : IsHalfOpen a.phase → TookFirstRequest a
  pub peers : a.outgoing.window ≤ WINDOW_LIMIT

-- what a message leaves of the peer's requests, once IKE_AUTH is done: their window stays as wide
pub record StaysConcluded (old new : Association) : Type 0 where
  pub concluded : is_concluded new.phase ≡ true
  pub size : new.incoming.size ≡ old.incoming.size

-- when IKE_AUTH establishes the IKE SA, their window widens to the one that this end announces (section
-- 2.3)
pub record WidensWindow (own : ℕ) (old new : Association) : Type 0 where
  pub before : is_concluded old.phase ≡ false
  pub after : IsEstablished new.phase
  pub size : new.incoming.size ≡ max own old.incoming.size

-- the window changes only then
abbrev pub KeepsWindow : ℕ → Association → Association → Type 0
KeepsWindow own old new = (new.incoming.size ≡ old.incoming.size) ⊎ WidensWindow own old new

-- the message opens to these payloads under the IKE SA's keys
pub record OpensToPayloads (plain_of : Opening) (a : Association) (octets : Octets) (m : Message) (payloads : List Payload) : Type 0 where
  pub plain : Plain
  pub opened : opened_by plain_of a octets m.payloads ≡ Some plain
  pub read : SpellsChain plain.first payloads plain.octets

-- The window for this end's requests then widens too, to the one that the peer's message announces, and
-- changes only then.
pub record WidensPeersWindow (plain_of : Opening) (octets : Octets) (m : Message) (old new : Association) : Type 0 where
  pub before : is_concluded old.phase ≡ false
  pub after : IsEstablished new.phase
  pub payloads : List Payload
  pub told : OpensToPayloads plain_of old octets m payloads
  pub window : new.outgoing.window ≡ max (peer_window payloads) old.outgoing.window

abbrev pub KeepsPeersWindow : Opening → Octets → Message → Association → Association → Type 0
KeepsPeersWindow plain_of octets m old new = (new.outgoing.window ≡ old.outgoing.window) ⊎ WidensPeersWindow plain_of octets m old new
