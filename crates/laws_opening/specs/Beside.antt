-- IKE_SA_INIT between gateways that may hold other IKE SAs (RFC 7296 sections 1.2, 2.6 and 2.14): what is
-- asked of its three steps, and what each leads to. All else that they hold stays as it is.
use Rattle.std.specs.Prelude.{◌≡◌, ◌+◌, ◌<◌, ℕ, false, length, slice_get, slice_set, None, Some}
use Rattle.std.specs.FinMap as map
use Rattle.std.specs.FinSet as set
use Rattle.std.specs.List.{position}
use Rattle.base.specs.Octets.{Octets}
use Rattle.wire.specs.Messages.{SpellsPlainly}
use Rattle.policy.specs.declared.entry.Entry.{Entry}
use Rattle.suite.specs.declared.fresh.Fresh.{Fresh}
use Rattle.suite.specs.declared.key_record.KeyRecord.{KeyRecord}
use Rattle.exchange.specs.Headers.{keys_of}
use Rattle.exchange.specs.Sealed.{IsSealed}
use Rattle.exchange.specs.declared.headers.Role.TheVariants.{Initiator}
use Rattle.requests.specs.Outgoing.{number_0_answered}
use Rattle.sadb.specs.Database.{Database, IsFull, IsSpent}
use Rattle.sa_init.specs.Judging.{ASSOCIATION_LIMIT, COOKIE_THRESHOLD}
use Rattle.association.specs.AskedChildren.{AskedChildView}
use Rattle.association.specs.Issuing.{new_request}
use Rattle.association.specs.declared.phase.Association.{Association}
use Rattle.association.specs.declared.phase.InitSent.{InitSent}
use Rattle.association.specs.declared.phase.Phase.TheVariants as phase
use Rattle.association.specs.declared.phase.Request.{Request as Asked}
use Rattle.association.specs.declared.purpose.Purpose.TheVariants.{Begin, Identify}
use Rattle.association.specs.Admitting.{half_open}
use Rattle.effects.specs.Taking.{Meaning}
use Rattle.ike.specs.Machines.{half_open_count, is_bad_spi, Held, Machine, SERIAL_END}
use Rattle.ike.specs.Receiving.{is_answered, with_next}
use Rattle.ike.specs.Starting.{child_by, protecting_entry}
use Rattle.gateway.specs.Histories.{IsPassage, Passage}
use Rattle.gateway.specs.Inputs as input
use Rattle.gateway.specs.Outputs.{wants_memory, Reply, Request}
use Rattle.gateway.specs.States.{State}
use Rattle.laws_opening.specs.Exchanged.{answering_message, asking_message, keys_from}
use Rattle.laws_opening.specs.Opening.{PutsOut}
use Rattle.laws_opening.specs.Opened.{after, telling_message, waiting_as}

-- ---- the initiator asks

-- A gateway can begin an IKE SA by the entry at this place: the entry protects; there is room for one
-- more IKE SA, and a serial is left; the fresh SPI can be its own; and the table has a place and an SPI
-- left.
pub record CanBegin {C : Type 0} (place : ℕ) (entry : Entry) (asking : Fresh) (s : State C) : Type 0 where
  pub protects : protecting_entry s.entries place ≡ Some entry
  pub few : length s.machine.held.associations < ASSOCIATION_LIMIT
  pub serial : s.machine.held.next < SERIAL_END
  pub usable : is_bad_spi asking.spi s.machine.held.associations ≡ false
  pub not_full : ¬ IsFull s.table
  pub not_spent : ¬ IsSpent s.table

-- the next SPI that a table gives
abbrev pub next_spi : Database → ℕ
next_spi table = table.start + table.given

-- the table, once that is reserved, with room for so many more
abbrev pub giving : Database → ℕ → Database
giving table room = record table { given = table.given + 1; reserved = set.insert table.reserved (next_spi table); room = room }

-- the first Child SA that such a gateway asks for
abbrev pub next_child : {C : Type 0} → Entry → State C → AskedChildView
next_child {C} entry s = child_by entry (next_spi s.table) s.machine.config.extended

-- the machine with one more IKE SA, which waits for the response to this request
abbrev pub with_waiting : Machine → Fresh → AskedChildView → Octets → ℕ → Machine
with_waiting machine asking child request room =
    record machine { held = with_next machine.held (waiting_as machine.held.next asking child request machine.moment room) }

-- Its request goes out, and it waits for the response. The next SPI is reserved for the Child SA.
pub record AsksBeside {C : Type 0} (meaning : Meaning) (entry : Entry) (asking : Fresh) (p : Passage C) : Type 0 where
  pub request : Octets
  pub said : p.said ≡ Request p.before.machine.held.next request
  pub spelled : SpellsPlainly (asking_message meaning asking) request
  -- room for more requests, and for more SPIs
  pub spare : ℕ
  pub room : ℕ
  pub after : p.after ≡ record p.before {
    machine = with_waiting p.before.machine asking (next_child entry p.before) request spare;
    table = giving p.before.table room;
  }

-- ---- the responder answers

-- A gateway that holds these IKE SAs has room for one more: so few are half open that no cookie is asked for
-- (section 2.6), a place and a serial are left, and the fresh SPI can be its own. None that is half open was
-- made by these very octets.
pub record CanAnswer (request : Octets) (spi : ℕ) (held : Held) : Type 0 where
  pub few : half_open_count held.associations < COOKIE_THRESHOLD
  pub place : length held.associations < ASSOCIATION_LIMIT
  pub serial : held.next < SERIAL_END
  pub usable : is_bad_spi spi held.associations ≡ false
  pub first : position (is_answered request) held.associations ≡ None

-- the machine with one more IKE SA, which is half open and has these keys
abbrev pub with_half_open : Machine → ℕ → ℕ → KeyRecord → Octets → Octets → Machine
with_half_open machine spi_i spi_r keys request response =
    record machine { held = with_next machine.held (half_open machine.held.next spi_i spi_r keys request response machine.moment) }

-- its response goes out, and it holds such an IKE SA
pub record AnswersBeside {C : Type 0} (meaning : Meaning) (asking answering : Fresh) (shared request : Octets) (q : Passage C) : Type 0 where
  pub response : Octets
  pub said : q.said ≡ Reply response None
  pub spelled : SpellsPlainly (answering_message meaning asking answering) response
  pub after : q.after ≡ record q.before {
    machine = with_half_open q.before.machine asking.spi answering.spi (keys_from shared asking answering) request response;
  }

-- ---- the initiator takes the answer up

-- An IKE SA waits for the response to this request of IKE_SA_INIT, however often that was sent, and asks for
-- this Child SA.
pub record StillWaits (asking : Fresh) (request : Octets) (child : AskedChildView) (held : Held) : Type 0 where
  pub place : ℕ
  pub association : Association
  pub there : slice_get held.associations place ≡ Some association
  pub role : association.role ≡ Initiator
  pub spi : association.spi_i ≡ asking.spi
  pub sent : InitSent
  pub phase_is : association.phase ≡ phase.InitSent sent
  pub secret : sent.secret ≡ asking.secret
  pub nonce : sent.nonce ≡ asking.nonce
  pub child_is : sent.child ≡ child
  pub asked : Asked
  pub outstanding : map.get association.outgoing.outstanding 0 ≡ Some asked
  pub octets : asked.octets ≡ request
  pub purpose : asked.purpose ≡ Begin

-- that IKE SA once it has the keys, and waits for the response to IKE_AUTH, whose request these octets are,
-- sent at this time
abbrev pub told_by : Association → Fresh → KeyRecord → Octets → AskedChildView → Octets → ℕ → ℕ → Association
told_by a answering keys response child auth moment room = record a {
  spi_r = answering.spi;
  outgoing = after number_0_answered (new_request auth Identify moment) room;
  phase = phase.AuthSent (record { keys = keys; first = response; child = child });
}

-- the machine with this IKE SA in place of the one at this place
abbrev pub with_at : Machine → ℕ → Association → Machine
with_at machine place a = record machine { held = record machine.held { associations = slice_set machine.held.associations place a } }

-- It has the keys, and its request of IKE_AUTH goes out, sealed under them.
pub record TakesUpBeside {C : Type 0} (meaning : Meaning) (asking answering reading : Fresh) (keys : KeyRecord) (request response : Octets) (child : AskedChildView) (r : Passage C)
    (waits : StillWaits asking request child r.before.machine.held) : Type 0 where
  pub auth : Octets
  pub said : r.said ≡ Request waits.association.serial auth
  pub sealed : IsSealed meaning.body_of (keys_of Initiator keys) reading.seal
      (telling_message meaning r.before.machine.config asking answering keys request child) auth
  -- room for more requests
  pub spare : ℕ
  pub after : r.after ≡ record r.before {
    machine = with_at r.before.machine waits.place (told_by waits.association answering keys response child auth r.before.machine.moment spare);
  }

-- ---- all three

-- Three steps of two gateways: the one is told to begin; what it puts out comes to the other; and what that
-- puts out comes back while the one still waits. Memory runs out at neither.
pub record IsExchangeBeside {C : Type 0} (meaning_of : C → Meaning) (place : ℕ) (entry : Entry) (asking answering reading : Fresh) (p q r : Passage C) : Type 0 where
  pub begins : IsPassage meaning_of p
  pub told : p.given ≡ input.Start None place asking
  pub can_begin : CanBegin place entry asking p.before
  pub memory : wants_memory p.said ≡ false
  -- the request, from whatever address
  pub request : Octets
  pub sent : PutsOut p.said request
  pub answers : IsPassage meaning_of q
  pub address : Octets
  pub asked : q.given ≡ input.Ike address request answering
  pub can_answer : CanAnswer request answering.spi q.before.machine.held
  pub memory_there : wants_memory q.said ≡ false
  -- the response, from whatever address
  pub response : Octets
  pub sent_back : PutsOut q.said response
  pub reads : IsPassage meaning_of r
  pub address_back : Octets
  pub given : r.given ≡ input.Ike address_back response reading
  pub waits : StillWaits asking request (next_child entry p.before) r.before.machine.held
  pub memory_back : wants_memory r.said ≡ false

-- what each of them leads to: both have one record of keys, by the secret that they share
pub record OpensBeside {C : Type 0} (meaning_of : C → Meaning) (place : ℕ) (entry : Entry) (asking answering reading : Fresh) (shared : Octets) (p q r : Passage C)
    (is : IsExchangeBeside meaning_of place entry asking answering reading p q r) : Type 0 where
  pub asks : AsksBeside (meaning_of p.before.caller) entry asking p
  pub request_is : asks.request ≡ is.request
  pub answers : AnswersBeside (meaning_of q.before.caller) asking answering shared is.request q
  pub response_is : answers.response ≡ is.response
  pub takes_up : TakesUpBeside (meaning_of r.before.caller) asking answering reading (keys_from shared asking answering) is.request is.response
      (next_child entry p.before) r is.waits
