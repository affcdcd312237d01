-- Two gateways, and the log of them: what was sent under which keys, which keys and which Child SAs were
-- made.
use Rattle.std.specs.Prelude.{◌≡◌, ◌++◌, ◌∷◌, ℕ, zero, suc, List, [], false, Option, Some, None, map, slice_get, refl, if◌then◌else◌}
use Rattle.std.specs.Coded.{Coded, code_by, coded×}
use Rattle.std.specs.Option.{option_map, option_to_list}
use Rattle.base.specs.Octets.{Octets}
use Rattle.esp.specs.declared.sa.Sa.{Sa}
use Rattle.suite.specs.declared.key_record.KeyRecord.{KeyRecord}
use Rattle.sadb.specs.Database.{pair_at, Database}
use Rattle.sadb.specs.declared.pair.Pair.{Pair}
use Rattle.effects.specs.Taking.{Meaning}
use Rattle.moments.specs.declared.resent.Resent.{Resent}
use Rattle.ike.specs.Machines.{keys_of_serial, Machine}
use Rattle.ike.specs.declared.output.MadeChild.{MadeChild}
use Rattle.ike.specs.Moves.{HasFresh}
use Rattle.ike.specs.Steps as ike_steps
use Rattle.ike.specs.declared.output.Mark as ike
use Rattle.ike.specs.declared.output.Trace.{Trace}
use Rattle.gateway.specs.Inputs.{Event}
use Rattle.gateway.specs.Outputs.{OutputView, Counted, Clear, Discarded, Done, Dropped, Dummy, Refused, Repeat, Reply, Request, Sealed, Ticked, Up}
use Rattle.gateway.specs.Requests.{for_ike}
use Rattle.gateway.specs.States.{IsSoundState, State}
use Rattle.gateway.specs.Steps.{Traces}
use Rattle.gateway.specs.declared.world.log.Log.{Log}
use Rattle.gateway.specs.declared.world.stored.Child.{Child}
use Rattle.gateway.specs.declared.world.stored.Datagram.{Datagram}
use Rattle.gateway.specs.declared.world.stored.End.{End}
use Rattle.gateway.specs.declared.world.stored.End.TheVariants.{A, B}
use Rattle.gateway.specs.declared.world.stored.Keyed.{Keyed}
use Rattle.gateway.specs.declared.world.stored.Protection.{Protection}
use Rattle.gateway.specs.declared.world.stored.Protection.TheVariants as mark
use Rattle.gateway.specs.declared.world.stored.Simplex.{Simplex}

-- each list in the order in which it was sent or made
pub record Stored : Type 0 where
  pub sent : List Datagram
  pub keyed : List Keyed
  pub children : List Child

pub record WorldState (C : Type 0) : Type 0 where
  pub a : State C
  pub b : State C
  pub stored : Stored

abbrev pub nothing_stored : Stored
nothing_stored = record { sent = []; keyed = []; children = [] }

abbrev pub new_world : {C : Type 0} → State C → State C → WorldState C
new_world {C} a b = record { a = a; b = b; stored = nothing_stored }

-- a gateway that holds no IKE SA, has given no SPI, and is at time 0
pub record HoldsNothing {C : Type 0} (s : State C) : Type 0 where
  pub associations : s.machine.held.associations ≡ []
  pub moment : s.machine.moment ≡ 0
  pub given : s.table.given ≡ 0

abbrev pub other_end : End → End
other_end A = B
other_end B = A

-- with one more at the front, if it is of this end
abbrev pub if_at : {X : Type 0} → End → End → X → List X → List X
if_at {X} A A x xs = x ∷ xs
if_at {X} B B x xs = x ∷ xs
if_at {X} A B x xs = xs
if_at {X} B A x xs = xs

abbrev pub gateway_at : {C : Type 0} → End → WorldState C → State C
gateway_at A w = w.a
gateway_at B w = w.b

-- the gateway of this end becomes this one, and this is stored
abbrev pub with_gateway : {C : Type 0} → End → State C → Stored → WorldState C → WorldState C
with_gateway A gateway stored w = record w { a = gateway; stored = stored }
with_gateway B gateway stored w = record w { b = gateway; stored = stored }

-- one direction of a pair
abbrev pub simplex_of : Sa → Simplex
simplex_of a = record { spi = a.spi; key = a.key; extended = a.extended }

-- the keys that sealed a message of IKE: those of the IKE SA that its trace names
abbrev pub mark_under : ike.Mark → Option KeyRecord → Protection
mark_under sent None = mark.Plain
mark_under sent (Some keys) = mark.Ike keys sent.response sent.number

abbrev pub ike_mark : Machine → Option ike.Mark → Protection
ike_mark machine None = mark.Plain
ike_mark machine (Some sent) = mark_under sent (keys_of_serial sent.ike machine.held.associations)

-- the outbound SA that sealed a packet
abbrev pub mark_by : ℕ → Option Pair → Protection
mark_by number None = mark.Plain
mark_by number (Some pair) = mark.Esp (simplex_of pair.outbound.association) number

-- the pair under this serial, which sealed a packet
abbrev pub esp_mark : Database → ℕ → ℕ → Protection
esp_mark table child number = mark_by number (pair_at table.pairs child)

abbrev pub datagram_of : End → Protection → Octets → Datagram
datagram_of end m octets = record { end = end; mark = m; octets = octets }

-- an encrypted message is stored so: under some key record, as this response or request
pub record IsMarked (sent : ike.Mark) (m : Protection) : Type 0 where
  pub keys : KeyRecord
  pub is : m ≡ mark.Ike keys sent.response sent.number

-- the keys that sealed a retransmitted request
abbrev pub mark_again : Resent → Option ike.Mark
mark_again r = if r.encrypted then Some (record { ike = r.ike; response = false; number = r.number }) else None

-- a retransmitted request, as it is stored
abbrev pub again_as : End → Machine → Resent → Datagram
again_as end machine r = datagram_of end (ike_mark machine (mark_again r)) r.octets

abbrev pub requests_in : OutputView → List Resent
requests_in (Ticked requests closed) = requests
requests_in _ = []

-- the datagram that a step sent, if it was no retransmitted request
abbrev pub sent_once : {C : Type 0} → End → OutputView → Option ike.Mark → State C → List Datagram
sent_once end (Reply octets closed) sent gateway = datagram_of end (ike_mark gateway.machine sent) octets ∷ []
sent_once end (Repeat octets) sent gateway = datagram_of end (ike_mark gateway.machine sent) octets ∷ []
sent_once end (Request serial octets) sent gateway = datagram_of end (ike_mark gateway.machine sent) octets ∷ []
sent_once end (Sealed child number octets) sent gateway = datagram_of end (esp_mark gateway.table child number) octets ∷ []
sent_once end (Counted serial child closed) sent gateway = []
sent_once end (Ticked requests closed) sent gateway = []
sent_once end Done sent gateway = []
sent_once end (Up child number packet) sent gateway = []
sent_once end (Dummy child number) sent gateway = []
sent_once end (Clear packet) sent gateway = []
sent_once end Discarded sent gateway = []
sent_once end (Dropped why) sent gateway = []
sent_once end (Refused why) sent gateway = []

-- the datagrams that a step sent
abbrev pub sent_by : {C : Type 0} → End → OutputView → Option ike.Mark → State C → List Datagram
sent_by end said sent gateway = sent_once end said sent gateway ++ map (again_as end gateway.machine) (requests_in said)

abbrev pub keyed_with : End → Option KeyRecord → Option Keyed
keyed_with end None = None
keyed_with end (Some keys) = Some (record { end = end; keys = keys })

-- the key record that a step made
abbrev pub keyed_by : End → Option ℕ → Machine → Option Keyed
keyed_by end None machine = None
keyed_by end (Some serial) machine = keyed_with end (keys_of_serial serial machine.held.associations)

abbrev pub child_with : End → MadeChild → Option KeyRecord → Option Pair → Option Child
child_with end made None pair = None
child_with end made (Some keys) None = None
child_with end made (Some keys) (Some pair) = Some (record {
  end = end;
  serial = made.serial;
  keys = keys;
  asked = made.asked;
  number = made.number;
  inbound = simplex_of pair.inbound.association;
  outbound = simplex_of pair.outbound.association;
  local = pair.local;
  remote = pair.remote;
})

-- the Child SA that a step made
abbrev pub child_by : {C : Type 0} → End → Option MadeChild → State C → Option Child
child_by end None gateway = None
child_by end (Some made) gateway =
    child_with end made (keys_of_serial made.ike gateway.machine.held.associations) (pair_at gateway.table.pairs made.serial)

-- what is stored after a step of an end, whose gateway is then this one
abbrev pub storing : {C : Type 0} → End → OutputView → Trace → State C → Stored → Stored
storing end said trace gateway old = record {
  sent = old.sent ++ sent_by end said trace.sent gateway;
  keyed = old.keyed ++ option_to_list (keyed_by end trace.keyed gateway.machine);
  children = old.children ++ option_to_list (child_by end trace.child gateway);
}

-- the fresh octets for sealing are 16, as for every value of their type
abbrev pub IsFreshlyGiven : Option ike_steps.InputView → Type 0
IsFreshlyGiven None = Unit {0}
IsFreshlyGiven (Some given) = HasFresh given

-- One end, whose invariant holds, takes a step. What it sent and made is stored, and the other end is as it
-- was.
pub record TakesEvent {C : Type 0} (meaning_of : C → Meaning) (event : Event) (old : WorldState C) (said : OutputView) (new : WorldState C) : Type 0 where
  pub sound : IsSoundState (gateway_at event.end old)
  pub fresh : IsFreshlyGiven (for_ike event.input)
  pub trace : Trace
  pub gateway : State C
  pub traces : Traces (meaning_of (gateway_at event.end old).caller) event.input (gateway_at event.end old) said trace gateway
  pub content : new ≡ with_gateway event.end gateway (storing event.end said trace gateway old.stored) old

-- the octets of the datagram at this place in the order of sending, counted from 1
abbrev pub datagram_at : List Datagram → ℕ → Option Octets
datagram_at sent zero = None
datagram_at sent (suc place) = option_map (λ d. d.octets) (slice_get sent place)

abbrev pub world_code : {C : Type 0} → Coded (State C) → Coded Stored → Coded (WorldState C)
world_code {C} gateway stored =
    code_by (State C × (State C × Stored)) (coded× gateway (coded× gateway stored))
    (λ w. (w.a, (w.b, w.stored)))
    (λ c. record { a = c.0; b = c.1.0; stored = c.1.1 })
    (λ _. refl)

-- what the log holds; only private contracts cite this
abbrev pub stored_by : Log → Stored
stored_by log = record { sent = log.sent.items; keyed = log.keyed.items; children = log.children.items }
