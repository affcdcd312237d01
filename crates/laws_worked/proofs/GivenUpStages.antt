-- The worlds that the worked run goes through where a second probe is never answered, and its steps.
use Rattle.std.proofs.Common.{◌+◌, ◌++◌, ◌∷◌, ℕ, List, [], Some}
use Rattle.std.specs.FinMap as map
use Rattle.std.specs.FinSet as set
use Rattle.std.specs.Prelude.{replicate}
use Rattle.sadb.specs.Database.{Database}
use Rattle.association.specs.declared.phase.Association.{Association}
use Rattle.association.specs.declared.phase.Phase.TheVariants.{Closed}
use Rattle.association.specs.declared.phase.Request.{Request}
use Rattle.ike.specs.Machines.{new_machine, Machine}
use Rattle.gateway.specs.Outputs.{Ticked}
use Rattle.gateway.specs.States.{State}
use Rattle.gateway.specs.WorldHistories.{Happening}
use Rattle.gateway.specs.Worlds.{WorldState}
use Rattle.gateway.specs.declared.world.stored.Datagram.{Datagram}
use Rattle.gateway.specs.declared.world.stored.End.TheVariants.{A, B}
use Rattle.laws_two_ends.specs.WorkedMessages.{probe_octets}
use Rattle.laws_two_ends.specs.WorkedRecords.{worked_record}
use Rattle.laws_two_ends.specs.WorkedRuns.{config_at, new_end}
use Rattle.laws_worked.specs.GivenUp.{probe_again, told_at}
use Rattle.laws_worked.proofs.RecoveryStages.{asks_again, second_request, second_sent, stored_with, waiting_by}
use Rattle.laws_worked.proofs.RetransmissionLemmas.{retransmission_steps}
use Rattle.laws_two_ends.proofs.Stages.{asking_table, end_with, later_table, probed, world_of}

-- ---- A's IKE SA

-- its second probe, sent at this time, for so many times again
abbrev pub request_sent : ℕ → ℕ → Request
request_sent sent repeats = record second_request { timer = record { sent = sent; repeats = repeats } }

-- which it waits for since then
abbrev pub waiting_since : ℕ → ℕ → Association
waiting_since sent repeats = waiting_by (request_sent sent repeats)

-- closed at this time, when that went out five times again
abbrev pub closed_at : ℕ → Association
closed_at moment = record (waiting_since 31000 5) {
  outgoing = record (waiting_since 31000 5).outgoing { outstanding = map.empty; room = 0 + map.len (waiting_since 31000 5).outgoing.outstanding };
  phase = Closed (Some worked_record) moment;
}

-- ---- A's table

-- no SPI is reserved
abbrev pub unreserved_table : Database
unreserved_table = record (asking_table 1) { reserved = set.empty }

-- and the pair is gone
abbrev pub closed_table : Database
closed_table = record unreserved_table { pairs = map.empty }

-- ---- A

abbrev pub machine_then : ℕ → List Association → Machine
machine_then moment associations = record (new_machine (config_at A)) { moment = moment; held = record { next = 2; associations = associations } }

-- at this time, with these IKE SAs and this table
abbrev pub one_then : {C : Type 0} → C → ℕ → List Association → Database → State C
one_then {C} caller moment associations table = record (new_end A caller) { machine = machine_then moment associations; table = table }

-- ---- the steps

-- it was sent so often
abbrev pub sent_times : ℕ → List Datagram
sent_times count = replicate count second_sent

module _ {C : Type 0} (a b : C) where
  -- A is so, B is as it was, and these were sent after the run so far
  abbrev pub world_then : ℕ → List Association → Database → List Datagram → WorldState C
  world_then moment associations table more =
      world_of a b (one_then a moment associations table) (end_with B b probed later_table) (stored_with a b more)

  -- the request goes out again at this time
  abbrev pub goes_out_at : ℕ → ℕ → ℕ → Happening C
  goes_out_at sent repeats now = record {
    before = world_then sent (waiting_since sent repeats ∷ []) (asking_table 1) (sent_times (repeats + 1));
    event = told_at now;
    said = Ticked (probe_again probe_octets ∷ []) [];
    after = world_then now (waiting_since now (repeats + 1) ∷ []) (asking_table 1) (sent_times (repeats + 2));
  }

  -- the peer is taken to be gone
  abbrev pub is_given_up : Happening C
  is_given_up = record {
    before = world_then 31000 (waiting_since 31000 5 ∷ []) (asking_table 1) (sent_times 6);
    event = told_at 47000;
    said = Ticked [] (1 ∷ []);
    after = world_then 47000 (closed_at 47000 ∷ []) closed_table (sent_times 6);
  }

  abbrev pub removed_world : WorldState C
  removed_world = world_then 167000 [] closed_table (sent_times 6)

  abbrev pub is_removed : Happening C
  is_removed = record {
    before = world_then 47000 (closed_at 47000 ∷ []) closed_table (sent_times 6);
    event = told_at 167000;
    said = Ticked [] [];
    after = removed_world;
  }

  abbrev pub steps_given_up : List (Happening C)
  steps_given_up =
      asks_again a b
      ∷ goes_out_at 0 0 1000
      ∷ goes_out_at 1000 1 3000
      ∷ goes_out_at 3000 2 7000
      ∷ goes_out_at 7000 3 15000
      ∷ goes_out_at 15000 4 31000
      ∷ is_given_up
      ∷ is_removed
      ∷ []

  abbrev pub given_up_steps : List (Happening C)
  given_up_steps = retransmission_steps a b ++ steps_given_up
