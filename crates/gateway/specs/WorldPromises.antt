-- What is promised of both ends of a world over a list of events, for each key record. The assumptions: no
-- message under the record was forged, and neither end came to it twice (RFC 7296 sections 2.1 to 2.3).
use Rattle.std.specs.Prelude.{◌≡◌, ◌⊎◌, ℕ, Bool, true, false, List, Some, slice_get}
use Rattle.base.specs.Octets.{Octets}
use Rattle.suite.specs.declared.key_record.KeyRecord.{KeyRecord}
use Rattle.exchange.specs.Headers.{other_role}
use Rattle.requests.specs.Numbers.{HasNumber}
use Rattle.association.specs.declared.phase.Association.{Association}
use Rattle.effects.specs.Moves.{ledger_of}
use Rattle.effects.specs.Openings.{OpensAsMessage}
use Rattle.effects.specs.Taking.{Meaning}
use Rattle.lockstep.specs.Promises.{AreInStep, AreIssuedAndInEffect, AreWithinWindows}
use Rattle.lockstep.specs.Soundness.{IsInitial}
use Rattle.gateway.specs.Inputs.{Event}
use Rattle.gateway.specs.Outputs.{wants_memory}
use Rattle.gateway.specs.Requests.{for_ike, IsDatagram}
use Rattle.gateway.specs.WorldHistories.{Happening, IsWorldHistory}
use Rattle.gateway.specs.WorldParties.{AreBothHeld, HasSent, HasSentSome, HoldsUnder, IsNeverMadeTwice, IsSoundUnder}
use Rattle.gateway.specs.Worlds.{gateway_at, other_end, Stored, WorldState}
use Rattle.gateway.specs.declared.output.Output.{Output}
use Rattle.gateway.specs.declared.world.stored.End.{End}

-- A datagram of these octets comes to an end that holds an IKE SA under these keys. It opens there as the
-- other role's request with this Message ID, or as its response to it (sections 3.1 and 3.14). One that is refused
-- on allocation failure counts as lost.
pub record ComesUnder {C : Type 0} (meaning_of : C → Meaning) (keys : KeyRecord) (response : Bool) (number : ℕ) (octets : Octets) (h : Happening C) : Type 0 where
  pub association : Association
  pub held : HoldsUnder keys h.event.end h.before association
  pub datagram : IsDatagram (for_ike h.event.input) octets
  pub opens : OpensAsMessage (meaning_of (gateway_at h.event.end h.before).caller).plain_of association (other_role association.role) response number octets
  pub delivered : wants_memory h.said ≡ false

-- The assumption that no message under these keys was forged: what opens so, the other end has sent.
-- `stored_after` is what is stored after the list.
abbrev pub IsUnforged : {C : Type 0} → (C → Meaning) → KeyRecord → List (Happening C) → Stored → Type 0
IsUnforged {C} meaning_of keys happenings stored_after =
    (place : ℕ) (h : Happening C) (response : Bool) (number : ℕ) (octets : Octets) → slice_get happenings place ≡ Some h
    → ComesUnder meaning_of keys response number octets h → HasSent (other_end h.event.end) keys response number octets stored_after

-- The same, where the other end has sent it before it comes. This asks for more, and a network that only
-- carries messages meets it.
abbrev pub IsUnforgedByThen : {C : Type 0} → (C → Meaning) → KeyRecord → List (Happening C) → Type 0
IsUnforgedByThen {C} meaning_of keys happenings =
    (place : ℕ) (h : Happening C) (response : Bool) (number : ℕ) (octets : Octets) → slice_get happenings place ≡ Some h
    → ComesUnder meaning_of keys response number octets h → HasSent (other_end h.event.end) keys response number octets h.before.stored

-- Message IDs keep in step. Both ends hold an IKE SA under these keys, one as initiator and one as
-- responder. For the requests of either end: what was processed at the answering end was issued by the
-- asking end, and what the asking end counts as answered was processed at the answering end (section 2.2).
-- Both keep within the windows, as the asking end counts that of the other (section 2.3). Where it counts a
-- window of one, they go step by step. What an end that holds one took, the other has sent, also where the
-- other holds none any more; IKE_SA_INIT, with Message ID 0, is left out. All requests that an end sent under
-- these keys with one Message ID are the same octets, and so are all responses (section 2.1).
pub record EndsAgree {C : Type 0} (keys : KeyRecord) (w : WorldState C) : Type 0 where
  pub issued : (end : End) (asking answering : Association) → AreBothHeld keys end w asking answering
      → AreIssuedAndInEffect (ledger_of asking keys) (ledger_of answering keys)
  pub windows : (end : End) (asking answering : Association) → AreBothHeld keys end w asking answering
      → AreWithinWindows (ledger_of asking keys) (ledger_of answering keys)
  pub steps : (end : End) (asking answering : Association) → AreBothHeld keys end w asking answering → asking.outgoing.window ≡ 1
      → AreInStep (ledger_of asking keys) (ledger_of answering keys)
  pub taken : (end : End) (a : Association) (number : ℕ) → HoldsUnder keys end w a → HasNumber a.incoming.in_effect number
      → IsInitial (other_role a.role) number ⊎ HasSentSome (other_end end) keys false number w.stored
  pub counted : (end : End) (a : Association) (number : ℕ) → HoldsUnder keys end w a → HasNumber a.outgoing.answered number
      → IsInitial a.role number ⊎ HasSentSome (other_end end) keys true number w.stored
  pub once : (end : End) (response : Bool) (number : ℕ) (one other : Octets) → HasSent end keys response number one w.stored
      → HasSent end keys response number other w.stored → one ≡ other

-- A world that is sound for a key record stays so where no message under the record was forged and neither
-- end came to it twice. So is each world between, where what came under the record had been sent by then.
-- The ends of a sound world agree.
pub record StaysSound {C : Type 0} (meaning_of : C → Meaning) (happenings : List (Happening C)) (old new : WorldState C) : Type 0 where
  pub stays : (keys : KeyRecord) → IsSoundUnder keys old → IsUnforged meaning_of keys happenings new.stored → IsNeverMadeTwice keys new.stored → IsSoundUnder keys new
  pub each : (keys : KeyRecord) → IsSoundUnder keys old → IsUnforgedByThen meaning_of keys happenings → IsNeverMadeTwice keys new.stored
      → (place : ℕ) (h : Happening C) → slice_get happenings place ≡ Some h → IsSoundUnder keys h.after
  pub agree : (keys : KeyRecord) → IsSoundUnder keys new → EndsAgree keys new

-- The events that took place have a history, and the promises hold of every history of them.
pub record KeepsWorldPromises {C : Type 0} (meaning_of : C → Meaning) (events : List Event) (outputs : List Output) (old new : WorldState C) : Type 0 where
  pub happenings : List (Happening C)
  pub history : IsWorldHistory meaning_of events outputs old new happenings
  pub sound : (others : List (Happening C)) → IsWorldHistory meaning_of events outputs old new others → StaysSound meaning_of others old new
