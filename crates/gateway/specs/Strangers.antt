-- What passes no check changes nothing (RFC 7296 sections 1.2, 2.6 and 3.14; RFC 4303 section 3.4.4).
use Rattle.std.specs.Prelude.{◌≡◌, ◌⊎◌, ℕ, List, Ok, Some, slice_get, slice_set}
use Rattle.base.specs.Octets.{Octets}
use Rattle.wire.specs.Messages.{Spells}
use Rattle.wire.specs.declared.message.Message.{Message}
use Rattle.exchange.specs.declared.sealed.Plain.{Plain}
use Rattle.suite.specs.declared.fresh.Fresh.{Fresh}
use Rattle.esp.specs.Judging.{Judges}
use Rattle.sadb.specs.Database.{pair_at, Database, IsAsBefore}
use Rattle.sadb.specs.declared.pair.Pair.{Pair}
use Rattle.association.specs.Finding.{place_meant}
use Rattle.association.specs.Receiving.{IsAnsweringInitial, Opening}
use Rattle.association.specs.declared.phase.Association.{Association}
use Rattle.initial.specs.Answering.{IsHalfOpen}
use Rattle.initial.specs.Ending.{IsAuthSent}
use Rattle.initial.specs.Reading.{IsInitSent}
use Rattle.effects.specs.Taking.{HasItsEffect, KeepsIdentity, Meaning}
use Rattle.ike.specs.Machines.{Held, Machine}
use Rattle.ike.specs.Receiving.{with_next, IsInitialRequest}
use Rattle.gateway.specs.Histories.{Passage}
use Rattle.gateway.specs.Inputs.{Input}
use Rattle.gateway.specs.Inputs as input
use Rattle.gateway.specs.States.{State}

-- A datagram counts for the IKE SA that it is for: it opens under the keys of that one's peer, as a new
-- request in its window, or as the response to a request that waits for it.
pub record CountsForOne (plain_of : Opening) (held : Held) (octets : Octets) : Type 0 where
  pub message : Message
  pub spelled : Spells message octets
  pub place : ℕ
  pub meant : place_meant message.header held.associations ≡ Ok place
  pub association : Association
  pub there : slice_get held.associations place ≡ Some association
  pub plain : Plain
  pub counts : HasItsEffect message.header.flags.response plain_of association octets message plain

-- it is for an IKE SA that waits for the response to its IKE_SA_INIT, and is one; that IKE SA has no keys yet
pub record AnswersInClear (held : Held) (octets : Octets) : Type 0 where
  pub message : Message
  pub spelled : Spells message octets
  pub place : ℕ
  pub meant : place_meant message.header held.associations ≡ Ok place
  pub association : Association
  pub there : slice_get held.associations place ≡ Some association
  pub due : IsAnsweringInitial association message

-- an SA pair in the table accepts the packet as some number: its ICV is right, and the number is new and in
-- reach
pub record IsAccepted (table : Database) (octets : Octets) : Type 0 where
  pub child : ℕ
  pub pair : Pair
  pub there : pair_at table.pairs child ≡ Some pair
  pub number : ℕ
  pub judged : Judges pair.inbound.association pair.inbound.window octets number

-- What passes no check under keys that are held here: a datagram that counts for no IKE SA, and neither
-- begins one nor answers this end's own first request. A repeat or a reflection of what others sent is one,
-- too.
pub record IsStrangeDatagram (meaning : Meaning) (held : Held) (octets : Octets) : Type 0 where
  pub uncounted : ¬ CountsForOne meaning.plain_of held octets
  pub not_first : ¬ IsInitialRequest octets
  pub not_awaited : ¬ AnswersInClear held octets

-- so of an ESP packet that is accepted as no number of no pair, and of what comes in unprotected
abbrev pub IsStrange : {C : Type 0} → Meaning → State C → Input → Type 0
IsStrange {C} meaning s (input.Ike from octets fresh) = IsStrangeDatagram meaning s.machine.held octets
IsStrange {C} meaning s (input.Esp octets) = ¬ IsAccepted s.table octets
IsStrange {C} meaning s (input.Inward packet) = Unit {0}
IsStrange {C} meaning s (input.Outward packet) = ⊥
IsStrange {C} meaning s (input.Start serial entry fresh) = ⊥
IsStrange {C} meaning s (input.Probe serial fresh) = ⊥
IsStrange {C} meaning s (input.DeleteChild child fresh) = ⊥
IsStrange {C} meaning s (input.DeleteIke serial fresh) = ⊥
IsStrange {C} meaning s (input.Secret secret) = ⊥
IsStrange {C} meaning s (input.Tick moment) = ⊥

-- the gateway is as it was, but for the table's spare capacity
pub record IsAsItWas {C : Type 0} (old new : State C) : Type 0 where
  pub content : new ≡ record old { table = new.table }
  pub table : IsAsBefore old.table new.table

-- one IKE SA more is held, which is half open and has the next serial
pub record HoldsOneMore (old new : Machine) : Type 0 where
  pub association : Association
  pub serial : association.serial ≡ old.held.next
  pub half_open : IsHalfOpen association.phase
  pub content : new ≡ record old { held = with_next old.held association }

-- The gateway is as it was but for spare capacity, or holds one half-open IKE SA more and all else is as it
-- was, the table too.
pub record AddsAtMostAHalfOpen {C : Type 0} (old new : State C) : Type 0 where
  pub content : new ≡ record old { machine = new.machine; table = new.table }
  pub machine : (new.machine ≡ old.machine) ⊎ HoldsOneMore old.machine new.machine
  pub table : IsAsBefore old.table new.table

-- The IKE SA for which these octets are, and which waits for the response to its IKE_SA_INIT, goes on
-- waiting for one, or waits for the response to IKE_AUTH. It keeps its serial, role and SPI, and all else
-- is as it was.
pub record ChangesOneWaiting (octets : Octets) (old new : Machine) : Type 0 where
  pub awaited : AnswersInClear old.held octets
  pub is : Association
  pub identity : KeepsIdentity awaited.association is
  pub phase : IsInitSent is.phase ⊎ IsAuthSent is.phase
  pub content : new ≡ record old { held = record old.held { associations = slice_set old.held.associations awaited.place is } }

-- The gateway is as it was but for spare capacity, or one IKE SA that waits for the response to IKE_SA_INIT
-- is changed, and all else is as it was, the table too.
pub record ChangesAtMostOneWaiting {C : Type 0} (octets : Octets) (old new : State C) : Type 0 where
  pub content : new ≡ record old { machine = new.machine; table = new.table }
  pub machine : (new.machine ≡ old.machine) ⊎ ChangesOneWaiting octets old.machine new.machine
  pub table : IsAsBefore old.table new.table

-- At each of these steps: what is strange leaves the gateway as it was. A request of IKE_SA_INIT adds at
-- most a half-open IKE SA. Any other datagram that counts for no IKE SA changes at most the one that waits
-- for the response to its own IKE_SA_INIT.
pub record StrangersChangeNothing {C : Type 0} (meaning_of : C → Meaning) (passages : List (Passage C)) : Type 0 where
  pub strange : (place : ℕ) (p : Passage C) → slice_get passages place ≡ Some p → IsStrange (meaning_of p.before.caller) p.before p.given → IsAsItWas p.before p.after
  pub first : (place : ℕ) (from octets : Octets) (fresh : Fresh) (p : Passage C) → slice_get passages place ≡ Some p → p.given ≡ input.Ike from octets fresh
      → IsInitialRequest octets → AddsAtMostAHalfOpen p.before p.after
  pub answer : (place : ℕ) (from octets : Octets) (fresh : Fresh) (p : Passage C) → slice_get passages place ≡ Some p → p.given ≡ input.Ike from octets fresh
      → ¬ CountsForOne (meaning_of p.before.caller).plain_of p.before.machine.held octets → ¬ IsInitialRequest octets → ChangesAtMostOneWaiting octets p.before p.after
