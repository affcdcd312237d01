-- The worlds that the worked run goes through where a second probe is lost and is retransmitted, and its steps.
use Rattle.std.proofs.Common.{◌++◌, ◌∷◌, ℕ, true, false, List, [], None}
use Rattle.std.specs.FinMap as map
use Rattle.std.specs.FinSet as set
use Rattle.requests.specs.Incoming.{after_number_0, PeerRequests}
use Rattle.sadb.specs.Database.{Database}
use Rattle.association.specs.declared.phase.Association.{Association}
use Rattle.association.specs.declared.phase.Request.{Request}
use Rattle.association.specs.declared.purpose.Purpose.TheVariants.{Probe}
use Rattle.association.specs.Issuing.{new_request, with_incoming, with_outgoing}
use Rattle.initial.specs.Concluding.{established, widened}
use Rattle.ike.specs.Machines.{new_machine}
use Rattle.gateway.specs.Inputs as input
use Rattle.gateway.specs.Outputs.{Counted, Reply, Request as Requested, Ticked}
use Rattle.gateway.specs.States.{State}
use Rattle.gateway.specs.WorldHistories.{Happening}
use Rattle.gateway.specs.Worlds.{datagram_of, Stored, WorldState}
use Rattle.gateway.specs.declared.world.stored.Datagram.{Datagram}
use Rattle.gateway.specs.declared.world.stored.End.{End}
use Rattle.gateway.specs.declared.world.stored.End.TheVariants.{A, B}
use Rattle.gateway.specs.declared.world.stored.Protection.TheVariants as mark
use Rattle.laws_two_ends.specs.WorkedMessages.{alive_octets, probe_octets}
use Rattle.laws_two_ends.specs.WorkedRecords.{fresh_of, worked_record}
use Rattle.laws_two_ends.specs.WorkedRuns.{comes_to, config_at, new_end}
use Rattle.laws_worked.specs.Recoveries.{sent_again, ProbeDatagrams}
use Rattle.laws_worked.proofs.RetransmissionLemmas.{answered_again, retransmission_steps}
use Rattle.laws_two_ends.proofs.ResponseLemmas.{response_octets}
use Rattle.laws_two_ends.proofs.Stages.{all_keyed, asking_table, both_children, counted, end_with, later_table, opened, probed, sent_alive, sent_answer, sent_auth, sent_packet, sent_probe, sent_request, sent_response, stored_of, three_taken, world_of}

abbrev pub again : ProbeDatagrams
again = record { probe = probe_octets; response = alive_octets }

-- ---- the IKE SAs

-- A's second probe, by number 3, sent at time 0 and at this later one
abbrev pub second_request : Request
second_request = new_request probe_octets Probe 0

abbrev pub again_request : Request
again_request = record second_request { timer = record { sent = 1000; repeats = 1 } }

-- A's IKE SA, which waits for the response, since the one time or the other
abbrev pub waiting_by : Request → Association
waiting_by request = with_outgoing counted (record counted.outgoing { next = 4; outstanding = map.insert counted.outgoing.outstanding 3 request; room = 0 })

-- B's, where that was processed
abbrev pub four_taken : PeerRequests
four_taken = record after_number_0 { in_effect = set.insert three_taken.in_effect 3; kept = map.insert after_number_0.kept 3 alive_octets }

abbrev pub answered_twice : Association
answered_twice = widened 1 1 (established (with_incoming opened four_taken))

-- A's, which matched the response
abbrev pub counted_twice : Association
counted_twice = with_outgoing (waiting_by again_request) (record (waiting_by again_request).outgoing {
  answered = set.insert (waiting_by again_request).outgoing.answered 3;
  outstanding = map.remove (waiting_by again_request).outgoing.outstanding 3;
  room = 1;
})

-- ---- the gateways

-- an end at this time that holds this IKE SA alone, with this table
abbrev pub end_then : {C : Type 0} → End → C → ℕ → Association → Database → State C
end_then {C} end caller moment a table = record (new_end end caller) {
  machine = record (new_machine (config_at end)) { moment = moment; held = record { next = 2; associations = a ∷ [] } };
  table = table;
}

-- ---- what is stored

abbrev pub second_sent : Datagram
second_sent = datagram_of A (mark.Ike worked_record false 3) probe_octets

abbrev pub second_alive : Datagram
second_alive = datagram_of B (mark.Ike worked_record true 3) alive_octets

-- ---- the steps

module _ {C : Type 0} (a b : C) where
  -- with these sent after the run so far
  abbrev pub stored_with : List Datagram → Stored
  stored_with more =
      stored_of
      (sent_request ∷ sent_answer ∷ sent_auth ∷ sent_response response_octets ∷ sent_packet ∷ sent_probe ∷ sent_alive ∷ sent_alive ∷ more)
      (all_keyed a b response_octets) (both_children a b response_octets)

  abbrev pub asked_world : WorldState C
  asked_world =
      world_of a b (end_with A a (waiting_by second_request) (asking_table 1)) (end_with B b probed later_table) (stored_with (second_sent ∷ []))

  abbrev pub ticked_world : WorldState C
  ticked_world =
      world_of a b (end_then A a 1000 (waiting_by again_request) (asking_table 1)) (end_with B b probed later_table) (stored_with (second_sent ∷ second_sent ∷ []))

  abbrev pub replied_world : WorldState C
  replied_world =
      world_of a b (end_then A a 1000 (waiting_by again_request) (asking_table 1)) (end_with B b answered_twice later_table)
      (stored_with (second_sent ∷ second_sent ∷ second_alive ∷ []))

  abbrev pub matched_world : WorldState C
  matched_world =
      world_of a b (end_then A a 1000 counted_twice (asking_table 1)) (end_with B b answered_twice later_table)
      (stored_with (second_sent ∷ second_sent ∷ second_alive ∷ []))

  abbrev pub asks_again : Happening C
  asks_again = record {
    before = answered_again a b;
    event = record { end = A; input = input.Probe 1 (fresh_of 10) };
    said = Requested 1 probe_octets;
    after = asked_world;
  }

  abbrev pub goes_again : Happening C
  goes_again = record {
    before = asked_world;
    event = record { end = A; input = input.Tick 1000 };
    said = Ticked (sent_again again ∷ []) [];
    after = ticked_world;
  }

  abbrev pub replies : Happening C
  replies = record { before = ticked_world; event = comes_to B probe_octets 11; said = Reply alive_octets None; after = replied_world }

  abbrev pub matches : Happening C
  matches = record { before = replied_world; event = comes_to A alive_octets 12; said = Counted 1 None None; after = matched_world }

  abbrev pub recovery_steps : List (Happening C)
  recovery_steps = retransmission_steps a b ++ asks_again ∷ goes_again ∷ replies ∷ matches ∷ []
