-- The worlds that the run with extended sequence numbers goes through, and its steps.
use Rattle.std.proofs.Common.{◌∷◌, ℕ, Bool, true, false, List, [], None, Some}
use Rattle.std.specs.FinMap as map
use Rattle.std.specs.FinSet as set
use Rattle.replay.specs.Window.{unused_window, Seen}
use Rattle.base.specs.Octets.{Octets}
use Rattle.esp.specs.Packet.{packet}
use Rattle.esp.specs.Worked.{worked_payload}
use Rattle.esp.specs.declared.sa.Sa as esp
use Rattle.sadb.specs.Database.{empty_table, Database}
use Rattle.sadb.specs.declared.pair.Pair.{Pair}
use Rattle.sadb.specs.declared.pair.State.TheVariants.{Live}
use Rattle.exchange.specs.declared.headers.Role.{Role}
use Rattle.exchange.specs.declared.headers.Role.TheVariants.{Initiator, Responder}
use Rattle.requests.specs.Outgoing.{number_0_answered, OwnRequests}
use Rattle.association.specs.AskedChildren.{AskedChildView}
use Rattle.association.specs.Issuing.{new_request, with_outgoing}
use Rattle.association.specs.declared.phase.Association.{Association}
use Rattle.association.specs.declared.phase.InitSent.{InitSent}
use Rattle.association.specs.declared.phase.Phase.TheVariants as phase
use Rattle.association.specs.declared.phase.Request.{Request}
use Rattle.association.specs.declared.purpose.Purpose.TheVariants.{Identify}
use Rattle.children.specs.Pairs.{inbound_of, outbound_of}
use Rattle.children.specs.Terms.{Terms}
use Rattle.deliveries.specs.Worked.{any_traffic}
use Rattle.initial.specs.Beginning.{begun}
use Rattle.initial.specs.Concluding.{established, widened}
use Rattle.ike.specs.Machines.{new_machine}
use Rattle.gateway.specs.Inputs as input
use Rattle.gateway.specs.Outputs.{Counted, Reply, Request as Requested, Sealed, Up}
use Rattle.gateway.specs.States.{State}
use Rattle.gateway.specs.WorldHistories.{Happening}
use Rattle.gateway.specs.Worlds.{datagram_of, simplex_of, WorldState}
use Rattle.gateway.specs.declared.world.stored.Child.{Child}
use Rattle.gateway.specs.declared.world.stored.Datagram.{Datagram}
use Rattle.gateway.specs.declared.world.stored.End.{End}
use Rattle.gateway.specs.declared.world.stored.End.TheVariants.{A, B}
use Rattle.gateway.specs.declared.world.stored.Keyed.{Keyed}
use Rattle.gateway.specs.declared.world.stored.Protection.TheVariants as mark
use Rattle.laws_two_ends.specs.WorkedRecords.{answering_fresh, beginning_fresh, fresh_of, worked_record}
use Rattle.laws_two_ends.specs.WorkedRuns.{comes_to, spi_at}
use Rattle.laws_two_ends.proofs.AuthLemmas.{worked_child}
use Rattle.laws_two_ends.proofs.InitLemmas.{answer_octets, request_octets}
use Rattle.laws_two_ends.proofs.RequestLemmas.{after}
use Rattle.laws_two_ends.proofs.WorkedRecordLemmas.{worked_beginning}
use Rattle.laws_worked.specs.ExtendedRuns.{extended_config, extended_end, extended_ends, RunDatagrams}
use Rattle.laws_worked.proofs.ExtendedMessageLemmas.{request_octets as auth_octets, response_octets}
use Rattle.laws_two_ends.proofs.Stages.{agreed_keys, answering, keyed_by, one_taken, opened, reserved_table, sent_answer, sent_request, stored_of, table_with}

-- ---- the IKE SAs

abbrev pub extended_child : AskedChildView
extended_child = record worked_child { extended = true }

-- A's, which waits for the answer to IKE_SA_INIT, and then for that to IKE_AUTH
abbrev pub waiting : Association
waiting = begun 1 worked_beginning extended_child

abbrev pub init_sent : InitSent
init_sent = record { secret = beginning_fresh.secret; nonce = beginning_fresh.nonce; cookie = None; cookies_taken = 0; child = extended_child }

abbrev pub second_request : Request
second_request = new_request auth_octets Identify 0

abbrev pub telling : Association
telling = record waiting {
  spi_r = answering_fresh.spi;
  outgoing = after number_0_answered second_request;
  phase = phase.AuthSent (record { keys = worked_record; first = answer_octets; child = extended_child });
}

abbrev pub two_answered : OwnRequests Request
two_answered = record telling.outgoing {
  answered = set.insert telling.outgoing.answered 1;
  outstanding = map.remove telling.outgoing.outstanding 1;
  room = 1;
}

abbrev pub asking : Association
asking = widened 1 1 (established (with_outgoing telling two_answered))

-- ---- the Child SA

abbrev pub terms : Terms
terms = record { spi_i = spi_at A; spi_r = spi_at B; extended = true; ts_i = any_traffic; ts_r = any_traffic }

abbrev pub pair_of : Role → ℕ → Seen → Pair
pair_of role last window = record {
  serial = 1;
  ike = 1;
  inbound = record { association = inbound_of role agreed_keys terms; window = window };
  outbound = record { association = outbound_of role agreed_keys terms; last = last };
  local = any_traffic;
  remote = any_traffic;
  state = Live;
}

abbrev pub child_of : End → Bool → Role → Child
child_of end is_asked role = record {
  end = end;
  serial = 1;
  keys = worked_record;
  asked = is_asked;
  number = 1;
  inbound = simplex_of (inbound_of role agreed_keys terms);
  outbound = simplex_of (outbound_of role agreed_keys terms);
  local = any_traffic;
  remote = any_traffic;
}

abbrev pub asked_child : Child
asked_child = child_of A true Initiator

abbrev pub answered_child : Child
answered_child = child_of B false Responder

abbrev pub asking_table : ℕ → Database
asking_table last = table_with (spi_at A) (pair_of Initiator last (unused_window 2))

abbrev pub answering_table : Database
answering_table = table_with (spi_at B) (pair_of Responder 0 (unused_window 2))

abbrev pub later_table : Database
later_table = table_with (spi_at B) (pair_of Responder 0 one_taken)

-- ---- the gateways, and what is stored

abbrev pub end_with : {C : Type 0} → End → C → Association → Database → State C
end_with {C} end caller a table = record (extended_end end caller) {
  machine = record (new_machine (extended_config end)) { held = record { next = 2; associations = a ∷ [] } };
  table = table;
}

abbrev pub carrying : esp.Sa
carrying = outbound_of Initiator agreed_keys terms

abbrev pub carried_octets : Octets
carried_octets = packet carrying 1 4 worked_payload 2

abbrev pub sent_auth : Datagram
sent_auth = datagram_of A (mark.Ike worked_record false 1) auth_octets

abbrev pub sent_response : Datagram
sent_response = datagram_of B (mark.Ike worked_record true 1) response_octets

abbrev pub sent_packet : Datagram
sent_packet = datagram_of A (mark.Esp (simplex_of carrying) 1) carried_octets

abbrev pub both_keyed : List Keyed
both_keyed = keyed_by B ∷ keyed_by A ∷ []

abbrev pub exchanged : RunDatagrams
exchanged = record {
  init_request = request_octets;
  init_response = answer_octets;
  auth_request = auth_octets;
  auth_response = response_octets;
  packet = carried_octets;
}

-- ---- the steps

module _ {C : Type 0} (a b : C) where
  abbrev pub begun_world : WorldState C
  begun_world = record {
    a = end_with A a waiting (reserved_table (spi_at A));
    b = extended_end B b;
    stored = stored_of (sent_request ∷ []) [] [];
  }

  abbrev pub answered_world : WorldState C
  answered_world = record {
    a = end_with A a waiting (reserved_table (spi_at A));
    b = end_with B b opened (empty_table (spi_at B));
    stored = stored_of (sent_request ∷ sent_answer ∷ []) (keyed_by B ∷ []) [];
  }

  abbrev pub told_world : WorldState C
  told_world = record {
    a = end_with A a telling (reserved_table (spi_at A));
    b = end_with B b opened (empty_table (spi_at B));
    stored = stored_of (sent_request ∷ sent_answer ∷ sent_auth ∷ []) both_keyed [];
  }

  abbrev pub accepted_world : WorldState C
  accepted_world = record {
    a = end_with A a telling (reserved_table (spi_at A));
    b = end_with B b (answering response_octets) answering_table;
    stored = stored_of (sent_request ∷ sent_answer ∷ sent_auth ∷ sent_response ∷ []) both_keyed (answered_child ∷ []);
  }

  abbrev pub child_world : WorldState C
  child_world = record {
    a = end_with A a asking (asking_table 0);
    b = end_with B b (answering response_octets) answering_table;
    stored = stored_of (sent_request ∷ sent_answer ∷ sent_auth ∷ sent_response ∷ []) both_keyed (answered_child ∷ asked_child ∷ []);
  }

  abbrev pub sealed_world : WorldState C
  sealed_world = record {
    a = end_with A a asking (asking_table 1);
    b = end_with B b (answering response_octets) answering_table;
    stored = stored_of (sent_request ∷ sent_answer ∷ sent_auth ∷ sent_response ∷ sent_packet ∷ []) both_keyed (answered_child ∷ asked_child ∷ []);
  }

  abbrev pub delivered_world : WorldState C
  delivered_world = record sealed_world { b = end_with B b (answering response_octets) later_table }

  abbrev pub begins : Happening C
  begins = record {
    before = extended_ends a b;
    event = record { end = A; input = input.Start None 0 (fresh_of 1) };
    said = Requested 1 request_octets;
    after = begun_world;
  }

  abbrev pub answers : Happening C
  answers = record { before = begun_world; event = comes_to B request_octets 2; said = Reply answer_octets None; after = answered_world }

  abbrev pub tells : Happening C
  tells = record { before = answered_world; event = comes_to A answer_octets 3; said = Requested 1 auth_octets; after = told_world }

  abbrev pub accepts : Happening C
  accepts = record { before = told_world; event = comes_to B auth_octets 4; said = Reply response_octets None; after = accepted_world }

  abbrev pub concludes : Happening C
  concludes = record { before = accepted_world; event = comes_to A response_octets 5; said = Counted 1 (Some 1) None; after = child_world }

  abbrev pub seals : Happening C
  seals = record { before = child_world; event = record { end = A; input = input.Outward worked_payload }; said = Sealed 1 1 carried_octets; after = sealed_world }

  abbrev pub hands_up : Happening C
  hands_up = record {
    before = sealed_world;
    event = record { end = B; input = input.Esp carried_octets };
    said = Up 1 1 worked_payload;
    after = delivered_world;
  }

  abbrev pub all_steps : List (Happening C)
  all_steps = begins ∷ answers ∷ tells ∷ accepts ∷ concludes ∷ seals ∷ hands_up ∷ []
