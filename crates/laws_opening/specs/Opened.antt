-- Two gateways as they are made, and as IKE_SA_INIT leaves them: what each holds, and what the initiator
-- sends next (RFC 7296 sections 1.2, 2.14 and 2.15).
use Rattle.std.specs.Prelude.{◌+◌, ◌∷◌, ℕ, false, None, List, []}
use Rattle.std.specs.FinMap as map
use Rattle.std.specs.FinSet as set
use Rattle.base.specs.Octets.{Octets}
use Rattle.wire.specs.Numbers.{IKE_AUTH}
use Rattle.wire.specs.declared.message.Message.{Message}
use Rattle.policy.specs.declared.entry.Entry.{Entry}
use Rattle.suite.specs.declared.fresh.Fresh.{Fresh}
use Rattle.suite.specs.declared.key_record.KeyRecord.{KeyRecord}
use Rattle.exchange.specs.Headers.{sent_header}
use Rattle.exchange.specs.declared.headers.Role.TheVariants.{Initiator}
use Rattle.requests.specs.Incoming.{no_requests}
use Rattle.requests.specs.Outgoing.{none_issued, number_0_answered, OwnRequests}
use Rattle.sadb.specs.Database.{empty_table, Database}
use Rattle.association.specs.AskedChildren.{asked_of, AskedChildView}
use Rattle.association.specs.Issuing.{new_request}
use Rattle.association.specs.declared.phase.Association.{Association}
use Rattle.association.specs.declared.phase.Phase.TheVariants.{AuthSent, InitSent}
use Rattle.association.specs.declared.phase.Request.{Request}
use Rattle.association.specs.declared.purpose.Purpose.TheVariants.{Begin, Identify}
use Rattle.auth.specs.Proofs.{proving_of}
use Rattle.auth.specs.Requests.{auth_request}
use Rattle.children.specs.Asking.{child_request}
use Rattle.setup.specs.declared.config.Config.{Config}
use Rattle.association.specs.Admitting.{half_open}
use Rattle.effects.specs.Taking.{Meaning}
use Rattle.ike.specs.Machines.{new_machine}
use Rattle.ike.specs.Starting.{child_by}
use Rattle.gateway.specs.States.{new_gateway, State}

-- ---- gateways

-- how a gateway is made: its configuration, its policy, and the first SPI that it gives to a Child SA
pub record Side : Type 0 where
  pub config : Config
  pub entries : List Entry
  pub start : ℕ

abbrev pub made : {C : Type 0} → Side → C → State C
made {C} side caller = new_gateway side.config side.entries side.start caller

-- a gateway made so, once it holds this IKE SA, its first and only one, and this table
abbrev pub holding : {C : Type 0} → Side → Association → Database → C → State C
holding {C} side association table caller = record (made side caller) {
  machine = record (new_machine side.config) { held = record { next = 2; associations = association ∷ [] } };
  table = table;
}

-- the table of a gateway that gave its first SPI, which is reserved, and has no pair yet; it has room for so
-- many more
abbrev pub reserved_table : ℕ → ℕ → Database
reserved_table start room = record (empty_table start) { given = 1; reserved = set.insert set.empty start; room = room }

-- one more request is outstanding, under the next Message ID; there is room for so many more
abbrev pub after : OwnRequests Request → Request → ℕ → OwnRequests Request
after old request room = record old { next = old.next + 1; outstanding = map.insert old.outstanding old.next request; room = room }

-- ---- the first request is sent

-- the Child SA that is asked for by an entry, under the first SPI
abbrev pub first_child : Side → Entry → AskedChildView
first_child side entry = child_by entry side.start side.config.extended

-- an initiator's IKE SA, which waits for the response to IKE_SA_INIT, whose request these octets are, sent at
-- this time
abbrev pub waiting_as : ℕ → Fresh → AskedChildView → Octets → ℕ → ℕ → Association
waiting_as serial fresh child request moment room = record {
  serial = serial;
  role = Initiator;
  spi_i = fresh.spi;
  spi_r = 0;
  incoming = no_requests;
  outgoing = after none_issued (new_request request Begin moment) room;
  phase = InitSent (record { secret = fresh.secret; nonce = fresh.nonce; cookie = None; cookies_taken = 0; child = child });
}

-- that of a gateway which was just made
abbrev pub waiting : Side → Fresh → Entry → Octets → ℕ → Association
waiting side fresh entry request room = waiting_as 1 fresh (first_child side entry) request 0 room

-- ---- both have keys

-- what both ends draw and come to by IKE_SA_INIT
pub record Opening : Type 0 where
  -- fresh at the initiator's first step
  pub asking : Fresh
  -- fresh at the responder's step
  pub answering : Fresh
  -- by which the initiator asks for its first Child SA
  pub entry : Entry
  pub keys : KeyRecord
  -- the two messages
  pub request : Octets
  pub response : Octets
  -- for how many more requests the initiator has room at the end, which is no part of what it knows
  pub spare : ℕ

abbrev pub asked_child : Side → Opening → AskedChildView
asked_child side o = first_child side o.entry

-- the responder's IKE SA
abbrev pub opened : Opening → Association
opened o = half_open 1 o.asking.spi o.answering.spi o.keys o.request o.response 0

-- the initiator's, which waits for the response to IKE_AUTH, whose request these octets are
abbrev pub telling : Side → Opening → Octets → Association
telling side o auth = record {
  serial = 1;
  role = Initiator;
  spi_i = o.asking.spi;
  spi_r = o.answering.spi;
  incoming = no_requests;
  outgoing = after number_0_answered (new_request auth Identify 0) o.spare;
  phase = AuthSent (record { keys = o.keys; first = o.response; child = asked_child side o });
}

abbrev pub responder_opened : {C : Type 0} → Side → Opening → C → State C
responder_opened {C} side o caller = holding side (opened o) (empty_table side.start) caller

-- the SPI of the first Child SA is reserved, and the table has room for so many more
abbrev pub initiator_opened : {C : Type 0} → Side → Opening → Octets → ℕ → C → State C
initiator_opened {C} side o auth room caller = holding side (telling side o auth) (reserved_table side.start room) caller

-- An initiator's request of IKE_AUTH in clear: its identity, the proof over its first message, what it asks
-- for its first Child SA, and its window.
abbrev pub telling_message : Meaning → Config → Fresh → Fresh → KeyRecord → Octets → AskedChildView → Message
telling_message meaning config asking answering keys request child = record {
  header = sent_header asking.spi answering.spi IKE_AUTH Initiator false 1;
  payloads =
      auth_request meaning.own_method meaning.proof_of config.own.identity (proving_of Initiator keys request) (child_request (asked_of child)) config.window;
}

abbrev pub auth_message : Meaning → Side → Opening → Message
auth_message meaning side o = telling_message meaning side.config o.asking o.answering o.keys o.request (asked_child side o)
