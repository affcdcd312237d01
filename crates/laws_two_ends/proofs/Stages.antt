-- The worlds that the worked run goes through, one after each step, and its steps.
use Rattle.std.proofs.Common.{◌∷◌, ℕ, Bool, true, false, Some, None, List, []}
use Rattle.std.specs.FinMap as map
use Rattle.std.specs.FinSet as set
use Rattle.base.specs.Octets.{Octets}
use Rattle.replay.specs.Window.{unused_window, Seen}
use Rattle.esp.specs.Packet.{packet}
use Rattle.esp.specs.Worked.{worked_payload}
use Rattle.esp.specs.declared.sa.Sa as esp
use Rattle.sadb.specs.Database.{empty_table, Database}
use Rattle.sadb.specs.declared.pair.Pair.{Pair}
use Rattle.sadb.specs.declared.pair.State.TheVariants.{Live}
use Rattle.suite.specs.Keys.{first_child_keys}
use Rattle.exchange.specs.declared.headers.Role.{Role}
use Rattle.exchange.specs.declared.headers.Role.TheVariants.{Initiator, Responder}
use Rattle.requests.specs.Incoming.{after_number_0, PeerRequests}
use Rattle.requests.specs.Outgoing.{number_0_answered, OwnRequests}
use Rattle.association.specs.declared.phase.Association.{Association}
use Rattle.association.specs.declared.phase.Phase.TheVariants as phase
use Rattle.association.specs.declared.phase.Request.{Request}
use Rattle.association.specs.declared.purpose.Purpose.TheVariants.{Identify, Probe}
use Rattle.children.specs.Pairs.{inbound_of, outbound_of}
use Rattle.children.specs.Terms.{Terms}
use Rattle.association.specs.Admitting.{half_open}
use Rattle.initial.specs.Concluding.{established, widened}
use Rattle.association.specs.Issuing.{with_incoming, with_outgoing, new_request}
use Rattle.deliveries.specs.Worked.{any_traffic}
use Rattle.ike.specs.Machines.{new_machine}
use Rattle.gateway.specs.Inputs as input
use Rattle.gateway.specs.Outputs.{Counted, Reply, Request as Requested, Sealed, Up}
use Rattle.gateway.specs.States.{State}
use Rattle.laws_two_ends.specs.WorkedRequests.{worked_reply, worked_request}
use Rattle.gateway.specs.WorldHistories.{Happening}
use Rattle.gateway.specs.Worlds.{datagram_of, simplex_of, Stored, WorldState}
use Rattle.gateway.specs.declared.world.stored.Child.{Child}
use Rattle.gateway.specs.declared.world.stored.Datagram.{Datagram}
use Rattle.gateway.specs.declared.world.stored.End.{End}
use Rattle.gateway.specs.declared.world.stored.End.TheVariants.{A, B}
use Rattle.gateway.specs.declared.world.stored.Keyed.{Keyed}
use Rattle.gateway.specs.declared.world.stored.Protection.TheVariants as mark
use Rattle.laws_two_ends.specs.WorkedRecords.{answering_fresh, beginning_fresh, fresh_of, worked_record}
use Rattle.laws_two_ends.proofs.AuthLemmas.{auth_octets, worked_child}
use Rattle.laws_two_ends.proofs.InitLemmas.{answer_octets, request_octets}
use Rattle.laws_two_ends.proofs.RequestLemmas.{after}
use Rattle.laws_two_ends.proofs.WorkedRecordLemmas.{waiting}
use Rattle.laws_two_ends.specs.WorkedRuns.{comes_to, config_at, new_end, new_ends, spi_at}

-- ---- the IKE SAs

-- B's, which answered it
abbrev pub opened : Association
opened = half_open 1 beginning_fresh.spi answering_fresh.spi worked_record request_octets answer_octets 0

abbrev pub second_request : Request
second_request = new_request auth_octets Identify 0

-- A's, which waits for the response to IKE_AUTH
abbrev pub telling : Association
telling = record waiting {
  spi_r = answering_fresh.spi;
  outgoing = after number_0_answered second_request;
  phase = phase.AuthSent (record { keys = worked_record; first = answer_octets; child = worked_child });
}

-- B's, once IKE_AUTH was processed, whose response these octets are
abbrev pub two_taken : Octets → PeerRequests
two_taken response = record after_number_0 { in_effect = set.insert after_number_0.in_effect 1; kept = map.insert after_number_0.kept 1 response }

abbrev pub answering : Octets → Association
answering response = widened 1 1 (established (with_incoming opened (two_taken response)))

-- A's, once that was counted
abbrev pub two_answered : OwnRequests Request
two_answered = record telling.outgoing {
  answered = set.insert telling.outgoing.answered 1;
  outstanding = map.remove telling.outgoing.outstanding 1;
  room = 1;
}

abbrev pub asking : Association
asking = widened 1 1 (established (with_outgoing telling two_answered))

-- A's, which asked whether B is there, by number 2
abbrev pub probe_request : Request
probe_request = new_request worked_request Probe 0

abbrev pub probing : Association
probing = with_outgoing asking (record asking.outgoing { next = 3; outstanding = map.insert asking.outgoing.outstanding 2 probe_request; room = 0 })

-- B's, where that was processed; it keeps this reply alone, since A had the one before (section 2.3)
abbrev pub three_taken : PeerRequests
three_taken = record after_number_0 { in_effect = set.insert (two_taken []).in_effect 2; kept = map.insert after_number_0.kept 2 worked_reply }

abbrev pub probed : Association
probed = widened 1 1 (established (with_incoming opened three_taken))

-- A's, which matched that reply
abbrev pub counted : Association
counted = with_outgoing probing (record probing.outgoing {
  answered = set.insert probing.outgoing.answered 2;
  outstanding = map.remove probing.outgoing.outstanding 2;
  room = 1;
})

-- ---- the Child SA

abbrev pub agreed_terms : Terms
agreed_terms = record { spi_i = spi_at A; spi_r = spi_at B; extended = false; ts_i = any_traffic; ts_r = any_traffic }

abbrev pub agreed_keys : List Octets
agreed_keys = first_child_keys worked_record

-- the pair of the end of this role in the exchange: the last number that it sealed under, and what it knows
-- of the numbers that came
abbrev pub pair_of : Role → ℕ → Seen → Pair
pair_of role last window = record {
  serial = 1;
  ike = 1;
  inbound = record { association = inbound_of role agreed_keys agreed_terms; window = window };
  outbound = record { association = outbound_of role agreed_keys agreed_terms; last = last };
  local = any_traffic;
  remote = any_traffic;
  state = Live;
}

-- what is stored of it
abbrev pub child_of : End → Bool → Role → Child
child_of end is_asked role = record {
  end = end;
  serial = 1;
  keys = worked_record;
  asked = is_asked;
  number = 1;
  inbound = simplex_of (inbound_of role agreed_keys agreed_terms);
  outbound = simplex_of (outbound_of role agreed_keys agreed_terms);
  local = any_traffic;
  remote = any_traffic;
}

abbrev pub asked_child : Child
asked_child = child_of A true Initiator

abbrev pub answered_child : Child
answered_child = child_of B false Responder

-- ---- the tables

-- of an end that gave this SPI, which is reserved, and has no pair yet
abbrev pub reserved_table : ℕ → Database
reserved_table spi = record (empty_table spi) { given = 1; reserved = set.insert set.empty spi }

-- and where the pair came for which it was reserved
abbrev pub table_with : ℕ → Pair → Database
table_with spi pair = record {
  start = spi;
  given = 1;
  reserved = set.remove (set.insert set.empty spi) spi;
  next = 2;
  pairs = map.insert map.empty 1 pair;
  room = 0;
}

-- A's, which sealed under so many numbers
abbrev pub asking_table : ℕ → Database
asking_table last = table_with (spi_at A) (pair_of Initiator last (unused_window 2))

-- B's, and after number 1 came: a window of 64 numbers, of which that is taken
abbrev pub answering_table : Database
answering_table = table_with (spi_at B) (pair_of Responder 0 (unused_window 2))

abbrev pub one_taken : Seen
one_taken = record { top = 1; size = 64; taken = set.insert set.empty 1 }

abbrev pub later_table : Database
later_table = table_with (spi_at B) (pair_of Responder 0 one_taken)

-- ---- the gateways

-- an end that holds this IKE SA alone, with this table
abbrev pub end_with : {C : Type 0} → End → C → Association → Database → State C
end_with {C} end caller a table = record (new_end end caller) {
  machine = record (new_machine (config_at end)) { held = record { next = 2; associations = a ∷ [] } };
  table = table;
}

-- ---- what is stored

-- what A sends by
abbrev pub carrying : esp.Sa
carrying = outbound_of Initiator agreed_keys agreed_terms

-- the packet that A seals under number 1, with two octets of padding
abbrev pub carried_octets : Octets
carried_octets = packet carrying 1 4 worked_payload 2

abbrev pub keyed_by : End → Keyed
keyed_by end = record { end = end; keys = worked_record }

abbrev pub stored_of : List Datagram → List Keyed → List Child → Stored
stored_of sent keyed children = record { sent = sent; keyed = keyed; children = children }

abbrev pub sent_request : Datagram
sent_request = datagram_of A mark.Plain request_octets

abbrev pub sent_answer : Datagram
sent_answer = datagram_of B mark.Plain answer_octets

abbrev pub sent_auth : Datagram
sent_auth = datagram_of A (mark.Ike worked_record false 1) auth_octets

abbrev pub sent_response : Octets → Datagram
sent_response response = datagram_of B (mark.Ike worked_record true 1) response

abbrev pub sent_packet : Datagram
sent_packet = datagram_of A (mark.Esp (simplex_of carrying) 1) carried_octets

abbrev pub sent_probe : Datagram
sent_probe = datagram_of A (mark.Ike worked_record false 2) worked_request

abbrev pub sent_alive : Datagram
sent_alive = datagram_of B (mark.Ike worked_record true 2) worked_reply

-- ---- the steps; of those from the fourth on, the octets are those of IKE_AUTH's response

module _ {C : Type 0} (a b : C) where
  abbrev pub world_of : State C → State C → Stored → WorldState C
  world_of one other stored = record { a = one; b = other; stored = stored }

  -- after A began
  abbrev pub begun_world : WorldState C
  begun_world = world_of (end_with A a waiting (reserved_table (spi_at A))) (new_end B b) (stored_of (sent_request ∷ []) [] [])

  -- after B answered
  abbrev pub answered_world : WorldState C
  answered_world =
      world_of (end_with A a waiting (reserved_table (spi_at A))) (end_with B b opened (empty_table (spi_at B)))
      (stored_of (sent_request ∷ sent_answer ∷ []) (keyed_by B ∷ []) [])

  -- after A read the answer and told who it is
  abbrev pub told_world : WorldState C
  told_world =
      world_of (end_with A a telling (reserved_table (spi_at A))) (end_with B b opened (empty_table (spi_at B)))
      (stored_of (sent_request ∷ sent_answer ∷ sent_auth ∷ []) (keyed_by B ∷ keyed_by A ∷ []) [])

  abbrev pub begins : Happening C
  begins = record {
    before = new_ends a b;
    event = record { end = A; input = input.Start None 0 (fresh_of 1) };
    said = Requested 1 request_octets;
    after = begun_world;
  }

  abbrev pub answers : Happening C
  answers = record { before = begun_world; event = comes_to B request_octets 2; said = Reply answer_octets None; after = answered_world }

  abbrev pub tells : Happening C
  tells = record { before = answered_world; event = comes_to A answer_octets 3; said = Requested 1 auth_octets; after = told_world }

  module _ (response : Octets) where
    abbrev pub all_keyed : List Keyed
    all_keyed = keyed_by B ∷ keyed_by A ∷ []

    -- after B accepted A's identity, and made the Child SA
    abbrev pub accepted_world : WorldState C
    accepted_world =
        world_of (end_with A a telling (reserved_table (spi_at A))) (end_with B b (answering response) answering_table)
        (stored_of (sent_request ∷ sent_answer ∷ sent_auth ∷ sent_response response ∷ []) all_keyed (answered_child ∷ []))

    abbrev pub both_children : List Child
    both_children = answered_child ∷ asked_child ∷ []

    -- after A matched the response, and made the Child SA too
    abbrev pub child_world : WorldState C
    child_world =
        world_of (end_with A a asking (asking_table 0)) (end_with B b (answering response) answering_table)
        (stored_of (sent_request ∷ sent_answer ∷ sent_auth ∷ sent_response response ∷ []) all_keyed both_children)

    -- after A sealed the packet
    abbrev pub sealed_world : WorldState C
    sealed_world =
        world_of (end_with A a asking (asking_table 1)) (end_with B b (answering response) answering_table)
        (stored_of (sent_request ∷ sent_answer ∷ sent_auth ∷ sent_response response ∷ sent_packet ∷ []) all_keyed both_children)

    -- after the packet came to B
    abbrev pub delivered_world : WorldState C
    delivered_world = record sealed_world { b = end_with B b (answering response) later_table }

    -- after A sent the probe
    abbrev pub probing_world : WorldState C
    probing_world =
        world_of (end_with A a probing (asking_table 1)) (end_with B b (answering response) later_table)
        (stored_of (sent_request ∷ sent_answer ∷ sent_auth ∷ sent_response response ∷ sent_packet ∷ sent_probe ∷ []) all_keyed both_children)

    -- after B answered it
    abbrev pub probed_world : WorldState C
    probed_world =
        world_of (end_with A a probing (asking_table 1)) (end_with B b probed later_table)
        (stored_of (sent_request ∷ sent_answer ∷ sent_auth ∷ sent_response response ∷ sent_packet ∷ sent_probe ∷ sent_alive ∷ []) all_keyed both_children)

    -- and after A matched that answer
    abbrev pub last_world : WorldState C
    last_world = record probed_world { a = end_with A a counted (asking_table 1) }

    abbrev pub accepts : Happening C
    accepts = record { before = told_world; event = comes_to B auth_octets 4; said = Reply response None; after = accepted_world }

    abbrev pub concludes : Happening C
    concludes = record { before = accepted_world; event = comes_to A response 5; said = Counted 1 (Some 1) None; after = child_world }

    abbrev pub seals : Happening C
    seals = record {
      before = child_world;
      event = record { end = A; input = input.Outward worked_payload };
      said = Sealed 1 1 carried_octets;
      after = sealed_world;
    }

    abbrev pub hands_up : Happening C
    hands_up = record {
      before = sealed_world;
      event = record { end = B; input = input.Esp carried_octets };
      said = Up 1 1 worked_payload;
      after = delivered_world;
    }

    abbrev pub probes : Happening C
    probes = record {
      before = delivered_world;
      event = record { end = A; input = input.Probe 1 (fresh_of 6) };
      said = Requested 1 worked_request;
      after = probing_world;
    }

    abbrev pub is_there : Happening C
    is_there = record { before = probing_world; event = comes_to B worked_request 7; said = Reply worked_reply None; after = probed_world }

    abbrev pub counts : Happening C
    counts = record { before = probed_world; event = comes_to A worked_reply 8; said = Counted 1 None None; after = last_world }

    abbrev pub all_steps : List (Happening C)
    all_steps =
        begins ∷ answers ∷ tells ∷ accepts ∷ concludes ∷ seals ∷ hands_up ∷ probes ∷ is_there ∷ counts ∷ []
