-- A run that begins with two new gateways, in which an additional Child SA is made and carries a packet (RFC
-- 7296 section 1.3.1).
use Rattle.std.specs.Prelude.{◌≡◌, ◌≤◌, ◌++◌, ◌∷◌, ℕ, false, true, None, Some, List, [], Contains, map, slice_get}
use Rattle.base.specs.Octets.{Octets}
use Rattle.esp.specs.Worked.{worked_payload}
use Rattle.sadb.specs.Database.{pair_at}
use Rattle.sadb.specs.Mirrors.{Mirrors}
use Rattle.sadb.specs.declared.pair.Pair.{Pair}
use Rattle.suite.specs.declared.key_record.KeyRecord.{KeyRecord}
use Rattle.association.specs.declared.phase.Association.{Association}
use Rattle.gateway.specs.BothEnds.{IsWhollySound}
use Rattle.gateway.specs.Inputs.{Event}
use Rattle.gateway.specs.Inputs as input
use Rattle.gateway.specs.Origin.{IsUnforgedUpTo}
use Rattle.gateway.specs.Outputs.{Counted, OutputView, Reply, Request, Sealed, Up}
use Rattle.gateway.specs.WorldChildren.{AreOfOneRequest}
use Rattle.gateway.specs.WorldHistories.{Happening, IsWorldTrail}
use Rattle.gateway.specs.WorldPackets.{HasOneSender, HoldsPairOf, IsJudgedAt, IsUnforgedTo}
use Rattle.gateway.specs.WorldParties.{AreBothHeld, IsNeverMadeTwice}
use Rattle.gateway.specs.WorldPromises.{ComesUnder, IsUnforgedByThen}
use Rattle.gateway.specs.Worlds.{WorldState}
use Rattle.gateway.specs.declared.world.stored.Child.{Child}
use Rattle.gateway.specs.declared.world.stored.End.TheVariants.{A, B}
use Rattle.laws_two_ends.specs.WorkedRecords.{fresh_of, worked_record, IsFresh}
use Rattle.laws_two_ends.specs.WorkedRuns.{comes_to, new_ends, run_meaning, Exchanged}
use Rattle.laws_worked.specs.Recoveries.{recovery_events, recovery_outputs, ProbeDatagrams}

-- the datagrams of CREATE_CHILD_SA, and the packet
pub record ChildDatagrams : Type 0 where
  pub request : Octets
  pub response : Octets
  pub packet : Octets

-- After the second probe is answered, A is told to ask for an additional Child SA by the first entry. Its
-- request comes to B, and the response to A. Then a packet goes out at A, and comes to B.
abbrev pub further_events : Exchanged → ProbeDatagrams → ChildDatagrams → List Event
further_events e again more =
    recovery_events e again ++ record { end = A; input = input.Start (Some 1) 0 (fresh_of 13) }
    ∷ comes_to B more.request 14
    ∷ comes_to A more.response 15
    ∷ record { end = A; input = input.Outward worked_payload }
    ∷ record { end = B; input = input.Esp more.packet }
    ∷ []

abbrev pub further_outputs : Exchanged → ProbeDatagrams → ChildDatagrams → List OutputView
further_outputs e again more =
    recovery_outputs e again ++ Request 1 more.request
    ∷ Reply more.response None
    ∷ Counted 1 (Some 2) None
    ∷ Sealed 2 1 more.packet
    ∷ Up 2 1 worked_payload
    ∷ []

-- There is such a run, of two gateways whose world is wholly sound at first under every key record. Whatever
-- opens under the record of keys that both come to, the other end had sent before. Neither end comes to that
-- record twice. At the end both hold the IKE SA. Both ends make a second Child SA, by the one request with
-- Message ID 4. That comes under the keys, and so does its response. Each holds a pair of the Child SA, and
-- the two mirror each other. Each still holds a pair with serial 1 too.
--
-- The second child has one sender each way, and what is accepted of it at B was sent by A. It carries the
-- second packet, which goes up at the last step, and nothing was forged by then. Nothing of it comes to A, so
-- `unforged_back` says nothing there.
pub record IsRunWithFurtherChild {C : Type 0} (a b : C) : Type 0 where
  pub exchanged : Exchanged
  pub again : ProbeDatagrams
  pub more : ChildDatagrams
  pub happenings : List (Happening C)
  pub last : WorldState C
  pub takes : map (λ h. h.event) happenings ≡ further_events exchanged again more
  pub says : map (λ h. h.said) happenings ≡ further_outputs exchanged again more
  pub trail : IsWorldTrail (λ _. run_meaning) (new_ends a b) happenings last
  -- premises: what is fresh, and the record of keys
  pub fresh : (number : ℕ) → 1 ≤ number → number ≤ 15 → IsFresh (fresh_of number)
  pub sound : (keys : KeyRecord) → IsWhollySound run_meaning.body_of run_meaning.plain_of keys (new_ends a b)
  pub unforged : IsUnforgedByThen (λ _. run_meaning) worked_record happenings
  pub once : IsNeverMadeTwice worked_record last.stored
  -- the IKE SA at the end, and what comes under its keys
  pub asking : Association
  pub answering : Association
  pub held : AreBothHeld worked_record A last asking answering
  pub held_back : AreBothHeld worked_record B last answering asking
  pub request_step : Happening C
  pub requests : slice_get happenings 17 ≡ Some request_step
  pub request_comes : ComesUnder (λ _. run_meaning) worked_record false 4 more.request request_step
  pub response_step : Happening C
  pub reads : slice_get happenings 18 ≡ Some response_step
  pub response_comes : ComesUnder (λ _. run_meaning) worked_record true 4 more.response response_step
  -- the Child SA
  pub asked : Child
  pub answered : Child
  pub asked_there : Contains last.stored.children asked
  pub answered_there : Contains last.stored.children answered
  pub keyed : asked.keys ≡ worked_record
  pub of_one : AreOfOneRequest asked answered
  pub number_is : asked.number ≡ 4
  pub asked_end : asked.end ≡ A
  pub asked_serial : asked.serial ≡ 2
  pub answered_end : answered.end ≡ B
  pub answered_serial : answered.serial ≡ 2
  pub asked_pair : Pair
  pub answered_pair : Pair
  pub asked_held : HoldsPairOf asked asked_pair last
  pub answered_held : HoldsPairOf answered answered_pair last
  pub first_pair : Pair
  pub other_first_pair : Pair
  pub first_held : pair_at last.a.table.pairs 1 ≡ Some first_pair
  pub other_first_held : pair_at last.b.table.pairs 1 ≡ Some other_first_pair
  -- what is sent by it
  pub packet_step : Happening C
  pub packet_there : slice_get happenings 20 ≡ Some packet_step
  pub packet_comes : IsJudgedAt answered 1 more.packet packet_step
  pub unforged_to : IsUnforgedTo answered happenings last.stored
  pub one_sender : HasOneSender answered last.stored
  pub unforged_back : IsUnforgedTo asked happenings last.stored
  pub one_sender_back : HasOneSender asked last.stored
  pub by_then : IsUnforgedUpTo (λ _. run_meaning) worked_record answered happenings 20 packet_step
  -- what follows
  pub mirror : Mirrors asked_pair answered_pair
