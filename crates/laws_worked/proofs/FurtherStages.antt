-- The worlds that the worked run goes through where an additional Child SA is made, and its steps.
use Rattle.std.proofs.Common.{◌++◌, ◌∷◌, ℕ, Bool, true, false, List, [], None, Some}
use Rattle.std.specs.FinMap as map
use Rattle.std.specs.FinSet as set
use Rattle.base.specs.Octets.{Octets}
use Rattle.replay.specs.Window.{unused_window, Seen}
use Rattle.esp.specs.Packet.{packet}
use Rattle.esp.specs.Worked.{worked_payload}
use Rattle.esp.specs.declared.sa.Sa as esp
use Rattle.sadb.specs.Database.{Database}
use Rattle.sadb.specs.declared.pair.Pair.{Pair}
use Rattle.sadb.specs.declared.pair.State.TheVariants.{Live}
use Rattle.suite.specs.Keys.{child_keys}
use Rattle.exchange.specs.declared.headers.Role.{Role}
use Rattle.exchange.specs.declared.headers.Role.TheVariants.{Initiator, Responder}
use Rattle.requests.specs.Incoming.{after_number_0, PeerRequests}
use Rattle.association.specs.declared.phase.Association.{Association}
use Rattle.association.specs.declared.phase.Request.{Request}
use Rattle.association.specs.declared.purpose.FurtherChild.{FurtherChild}
use Rattle.association.specs.declared.purpose.Purpose.TheVariants.{CreateChild}
use Rattle.association.specs.Issuing.{new_request, with_incoming, with_outgoing}
use Rattle.children.specs.Pairs.{inbound_of, outbound_of}
use Rattle.children.specs.Terms.{Terms}
use Rattle.deliveries.specs.Worked.{any_traffic}
use Rattle.initial.specs.Concluding.{established, widened}
use Rattle.gateway.specs.Inputs as input
use Rattle.gateway.specs.Outputs.{Counted, Reply, Request as Requested, Sealed, Up}
use Rattle.gateway.specs.WorldHistories.{Happening}
use Rattle.gateway.specs.Worlds.{datagram_of, simplex_of, Stored, WorldState}
use Rattle.gateway.specs.declared.world.stored.Child.{Child}
use Rattle.gateway.specs.declared.world.stored.Datagram.{Datagram}
use Rattle.gateway.specs.declared.world.stored.End.{End}
use Rattle.gateway.specs.declared.world.stored.End.TheVariants.{A, B}
use Rattle.gateway.specs.declared.world.stored.Protection.TheVariants as mark
use Rattle.laws_two_ends.specs.WorkedRecords.{fresh_of, worked_record}
use Rattle.laws_two_ends.specs.WorkedRuns.{comes_to}
use Rattle.laws_worked.specs.FurtherChildren.{ChildDatagrams}
use Rattle.laws_two_ends.proofs.AcceptingLemmas.{any_selector}
use Rattle.laws_worked.proofs.FurtherMessageLemmas.{answering_octets, asking_octets, nonce_of}
use Rattle.laws_worked.proofs.RecoveryStages.{answered_twice, counted_twice, end_then, four_taken, matched_world, recovery_steps, second_alive, second_sent}
use Rattle.laws_two_ends.proofs.ResponseLemmas.{response_octets}
use Rattle.laws_two_ends.proofs.Stages.{all_keyed, answered_child, asked_child, asking_table, end_with, later_table, one_taken, opened, sent_alive, sent_answer, sent_auth, sent_packet, sent_probe, sent_request, sent_response, stored_of, world_of}

-- ---- the Child SA

abbrev pub further_terms : Terms
further_terms = record { spi_i = 257; spi_r = 513; extended = false; ts_i = any_traffic; ts_r = any_traffic }

abbrev pub further_keys : List Octets
further_keys = child_keys worked_record.sk_d (nonce_of 13) (nonce_of 14)

-- the pair of the end of this role in the exchange: the last number that it sealed under, and what it knows
-- of the numbers that came
abbrev pub further_pair : Role → ℕ → Seen → Pair
further_pair role last window = record {
  serial = 2;
  ike = 1;
  inbound = record { association = inbound_of role further_keys further_terms; window = window };
  outbound = record { association = outbound_of role further_keys further_terms; last = last };
  local = any_traffic;
  remote = any_traffic;
  state = Live;
}

-- what is stored of it
abbrev pub further_child : End → Bool → Role → Child
further_child end is_asked role = record {
  end = end;
  serial = 2;
  keys = worked_record;
  asked = is_asked;
  number = 4;
  inbound = simplex_of (inbound_of role further_keys further_terms);
  outbound = simplex_of (outbound_of role further_keys further_terms);
  local = any_traffic;
  remote = any_traffic;
}

abbrev pub further_asked : Child
further_asked = further_child A true Initiator

abbrev pub further_answered : Child
further_answered = further_child B false Responder

-- ---- the IKE SAs

-- A's request, sent a second after all else
abbrev pub wanted_child : FurtherChild
wanted_child = record { child = record { spi = 257; local = any_selector; remote = any_selector; extended = false }; nonce = nonce_of 13 }

abbrev pub further_request : Request
further_request = new_request asking_octets (CreateChild wanted_child) 1000

-- A's IKE SA, which waits for the response
abbrev pub furthering : Association
furthering = with_outgoing counted_twice (record counted_twice.outgoing { next = 5; outstanding = map.insert counted_twice.outgoing.outstanding 4 further_request; room = 0 })

-- B's, where that was processed
abbrev pub five_taken : PeerRequests
five_taken = record after_number_0 { in_effect = set.insert four_taken.in_effect 4; kept = map.insert after_number_0.kept 4 answering_octets }

abbrev pub answered_thrice : Association
answered_thrice = widened 1 1 (established (with_incoming opened five_taken))

-- A's, which matched the response
abbrev pub counted_thrice : Association
counted_thrice = with_outgoing furthering (record furthering.outgoing {
  answered = set.insert furthering.outgoing.answered 4;
  outstanding = map.remove furthering.outgoing.outstanding 4;
  room = 1;
})

-- ---- the tables

-- one that gave a second SPI, which is reserved
abbrev pub with_reserved : Database → ℕ → Database
with_reserved table spi = record table { given = 2; reserved = set.insert table.reserved spi }

-- and where the pair came for which it was reserved
abbrev pub with_second : Database → ℕ → Pair → Database
with_second table spi pair = record table {
  given = 2;
  reserved = set.remove (set.insert table.reserved spi) spi;
  next = 3;
  pairs = map.insert table.pairs 2 pair;
}

abbrev pub asked_table : Database
asked_table = with_reserved (asking_table 1) 257

abbrev pub asking_two : Database
asking_two = with_second (asking_table 1) 257 (further_pair Initiator 0 (unused_window 2))

abbrev pub answering_two : Database
answering_two = with_second later_table 513 (further_pair Responder 0 (unused_window 2))

-- A's, which sealed a packet by the second, and B's, to which that came
abbrev pub sealed_two : Database
sealed_two = record asking_two { pairs = map.insert asking_two.pairs 2 (further_pair Initiator 1 (unused_window 2)) }

abbrev pub delivered_two : Database
delivered_two = record answering_two { pairs = map.insert answering_two.pairs 2 (further_pair Responder 0 one_taken) }

-- ---- what is stored

abbrev pub sent_asking : Datagram
sent_asking = datagram_of A (mark.Ike worked_record false 4) asking_octets

abbrev pub sent_answering : Datagram
sent_answering = datagram_of B (mark.Ike worked_record true 4) answering_octets

-- what A sends by
abbrev pub further_carrying : esp.Sa
further_carrying = outbound_of Initiator further_keys further_terms

abbrev pub further_carried : Octets
further_carried = packet further_carrying 1 4 worked_payload 2

abbrev pub sent_further : Datagram
sent_further = datagram_of A (mark.Esp (simplex_of further_carrying) 1) further_carried

abbrev pub more : ChildDatagrams
more = record { request = asking_octets; response = answering_octets; packet = further_carried }

-- ---- the steps

module _ {C : Type 0} (a b : C) where
  -- with these sent and made after the run so far
  abbrev pub stored_then : List Datagram → List Child → Stored
  stored_then sent made =
      stored_of
      (sent_request ∷ sent_answer ∷ sent_auth ∷ sent_response response_octets ∷ sent_packet ∷ sent_probe ∷ sent_alive ∷ sent_alive
      ∷ second_sent ∷ second_sent ∷ second_alive ∷ sent)
      (all_keyed a b response_octets) (answered_child ∷ asked_child ∷ made)

  abbrev pub furthering_world : WorldState C
  furthering_world =
      world_of a b (end_then A a 1000 furthering asked_table) (end_with B b answered_twice later_table) (stored_then (sent_asking ∷ []) [])

  abbrev pub made_world : WorldState C
  made_world =
      world_of a b (end_then A a 1000 furthering asked_table) (end_with B b answered_thrice answering_two)
      (stored_then (sent_asking ∷ sent_answering ∷ []) (further_answered ∷ []))

  abbrev pub further_world : WorldState C
  further_world =
      world_of a b (end_then A a 1000 counted_thrice asking_two) (end_with B b answered_thrice answering_two)
      (stored_then (sent_asking ∷ sent_answering ∷ []) (further_answered ∷ further_asked ∷ []))

  abbrev pub sealed_world : WorldState C
  sealed_world =
      world_of a b (end_then A a 1000 counted_thrice sealed_two) (end_with B b answered_thrice answering_two)
      (stored_then (sent_asking ∷ sent_answering ∷ sent_further ∷ []) (further_answered ∷ further_asked ∷ []))

  abbrev pub delivered_world : WorldState C
  delivered_world = record sealed_world { b = end_with B b answered_thrice delivered_two }

  abbrev pub asks_further : Happening C
  asks_further = record {
    before = matched_world a b;
    event = record { end = A; input = input.Start (Some 1) 0 (fresh_of 13) };
    said = Requested 1 asking_octets;
    after = furthering_world;
  }

  abbrev pub makes_child : Happening C
  makes_child = record { before = furthering_world; event = comes_to B asking_octets 14; said = Reply answering_octets None; after = made_world }

  abbrev pub counts_child : Happening C
  counts_child = record { before = made_world; event = comes_to A answering_octets 15; said = Counted 1 (Some 2) None; after = further_world }

  abbrev pub seals_further : Happening C
  seals_further = record {
    before = further_world;
    event = record { end = A; input = input.Outward worked_payload };
    said = Sealed 2 1 further_carried;
    after = sealed_world;
  }

  abbrev pub hands_up_further : Happening C
  hands_up_further = record {
    before = sealed_world;
    event = record { end = B; input = input.Esp further_carried };
    said = Up 2 1 worked_payload;
    after = delivered_world;
  }

  abbrev pub further_steps : List (Happening C)
  further_steps = recovery_steps a b ++ asks_further ∷ makes_child ∷ counts_child ∷ seals_further ∷ hands_up_further ∷ []
