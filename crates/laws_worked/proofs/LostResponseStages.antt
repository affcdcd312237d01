-- The worlds that the worked run goes through where the response to a second probe is lost, and its steps
-- from there on. Up to that response they are those of the lost request.
use Rattle.std.proofs.Common.{◌++◌, ◌∷◌, List, [], None}
use Rattle.std.specs.FinMap as map
use Rattle.std.specs.FinSet as set
use Rattle.association.specs.declared.phase.Association.{Association}
use Rattle.association.specs.declared.phase.Request.{Request}
use Rattle.association.specs.Issuing.{with_outgoing}
use Rattle.gateway.specs.Inputs as input
use Rattle.gateway.specs.Outputs.{Counted, Repeat, Ticked}
use Rattle.gateway.specs.WorldHistories.{Happening}
use Rattle.gateway.specs.Worlds.{WorldState}
use Rattle.gateway.specs.declared.world.stored.End.TheVariants.{A, B}
use Rattle.laws_two_ends.specs.WorkedMessages.{alive_octets, probe_octets}
use Rattle.laws_two_ends.specs.WorkedRuns.{comes_to}
use Rattle.laws_worked.specs.Recoveries.{sent_again}
use Rattle.laws_worked.proofs.RecoveryStages.{again, answered_twice, asks_again, end_then, goes_again, replied_world, replies, second_alive, second_request, second_sent, stored_with, waiting_by}
use Rattle.laws_worked.proofs.RetransmissionLemmas.{retransmission_steps}
use Rattle.laws_two_ends.proofs.Stages.{asking_table, end_with, later_table, world_of}

-- ---- A's IKE SA

-- A's second probe, sent at 3000 for the third time
abbrev pub third_request : Request
third_request = record second_request { timer = record { sent = 3000; repeats = 2 } }

-- where the response to that was matched
abbrev pub counted_at_last : Association
counted_at_last = with_outgoing (waiting_by third_request) (record (waiting_by third_request).outgoing {
  answered = set.insert (waiting_by third_request).outgoing.answered 3;
  outstanding = map.remove (waiting_by third_request).outgoing.outstanding 3;
  room = 1;
})

-- ---- the steps

module _ {C : Type 0} (a b : C) where
  -- after the request went out for the third time
  abbrev pub third_world : WorldState C
  third_world =
      world_of a b (end_then A a 3000 (waiting_by third_request) (asking_table 1)) (end_with B b answered_twice later_table)
      (stored_with a b (second_sent ∷ second_sent ∷ second_alive ∷ second_sent ∷ []))

  -- after B answered it again; of what is sent, the response is stored once more
  abbrev pub repeated_world : WorldState C
  repeated_world =
      world_of a b (end_then A a 3000 (waiting_by third_request) (asking_table 1)) (end_with B b answered_twice later_table)
      (stored_with a b (second_sent ∷ second_sent ∷ second_alive ∷ second_sent ∷ second_alive ∷ []))

  -- and after A matched that
  abbrev pub matched_world : WorldState C
  matched_world =
      world_of a b (end_then A a 3000 counted_at_last (asking_table 1)) (end_with B b answered_twice later_table)
      (stored_with a b (second_sent ∷ second_sent ∷ second_alive ∷ second_sent ∷ second_alive ∷ []))

  abbrev pub goes_third : Happening C
  goes_third = record {
    before = replied_world a b;
    event = record { end = A; input = input.Tick 3000 };
    said = Ticked (sent_again again ∷ []) [];
    after = third_world;
  }

  abbrev pub repeats : Happening C
  repeats = record { before = third_world; event = comes_to B probe_octets 12; said = Repeat alive_octets; after = repeated_world }

  abbrev pub matches : Happening C
  matches = record { before = repeated_world; event = comes_to A alive_octets 13; said = Counted 1 None None; after = matched_world }

  abbrev pub lost_response_steps : List (Happening C)
  lost_response_steps =
      retransmission_steps a b ++ asks_again a b ∷ goes_again a b ∷ replies a b ∷ goes_third ∷ repeats ∷ matches ∷ []
