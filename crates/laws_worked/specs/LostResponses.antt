-- A run that begins with two new gateways, in which a request is lost, and then its response (RFC 7296
-- sections 2.1 to 2.4). Times are in milliseconds.
use Rattle.std.specs.Prelude.{◌≡◌, ◌++◌, ◌∷◌, false, None, Some, List, [], map, slice_get}
use Rattle.std.specs.FinMap as numbers
use Rattle.requests.specs.Incoming.{IsFreshRequest, IsLeftBehind}
use Rattle.requests.specs.Timers.{IsDue}
use Rattle.requests.specs.declared.timer.Due.TheVariants.{Again, Nothing}
use Rattle.association.specs.Phases.{IsEstablished}
use Rattle.association.specs.declared.phase.Association.{Association}
use Rattle.gateway.specs.Histories.{IsPassage, IsTrail}
use Rattle.gateway.specs.Inputs.{Event}
use Rattle.gateway.specs.Inputs as input
use Rattle.gateway.specs.Outputs.{wants_memory, Counted, OutputView, Repeat, Reply, Request, Ticked}
use Rattle.gateway.specs.Requests.{for_ike, AnswersBy, OnlySays, TakesEffect}
use Rattle.gateway.specs.WorldHistories.{passage_at, passages_at, Happening, IsWorldTrail}
use Rattle.gateway.specs.Worlds.{IsFreshlyGiven, WorldState}
use Rattle.gateway.specs.declared.world.stored.End.TheVariants.{A, B}
use Rattle.laws_two_ends.specs.WorkedRecords.{fresh_of}
use Rattle.laws_two_ends.specs.WorkedRuns.{comes_to, new_ends, run_meaning, Exchanged}
use Rattle.laws_recovery.specs.Copies.{AreEndsOfOne, ArrivesAt, IsMatched, IsRepeated, WaitsUntil}
use Rattle.laws_recovery.specs.WorldCopies.{CopyArrives, ResponseArrives, WasTaken}
use Rattle.laws_worked.specs.Recoveries.{sent_again, ProbeDatagrams}
use Rattle.laws_worked.specs.Retransmissions.{retransmission_events, retransmission_outputs}

-- After the first probe has come twice, A is told to ask again, and that request is lost. One second later it
-- is retransmitted, and comes to B. Two seconds later it is retransmitted once more, and comes to B again. Of
-- B's two responses the second comes to A.
abbrev pub lost_response_events : Exchanged → ProbeDatagrams → List Event
lost_response_events e again =
    retransmission_events e ++ record { end = A; input = input.Probe 1 (fresh_of 10) }
    ∷ record { end = A; input = input.Tick 1000 }
    ∷ comes_to B again.probe 11
    ∷ record { end = A; input = input.Tick 3000 }
    ∷ comes_to B again.probe 12
    ∷ comes_to A again.response 13
    ∷ []

-- The request goes out three times in the same octets, and the response twice.
abbrev pub lost_response_outputs : Exchanged → ProbeDatagrams → List OutputView
lost_response_outputs e again =
    retransmission_outputs e ++ Request 1 again.probe
    ∷ Ticked (sent_again again ∷ []) []
    ∷ Reply again.response None
    ∷ Ticked (sent_again again ∷ []) []
    ∷ Repeat again.response
    ∷ Counted 1 None None
    ∷ []

-- There is such a run. Its last six steps meet the premises of what is promised of a request and of a
-- response that are lost: at each end by itself, and in the world of both. That a caller can mean this is
-- said in `laws_two_ends`.
--
-- The request with Message ID 3 goes out first, waits from then on, and goes out again twice, when it is due.
-- The first copy comes to B, the other end of that IKE SA, which is established. It is new there and in the
-- window. It is processed and answered.
--
-- The second copy comes after that. B keeps the response then, answers by it, and stays as it is. This
-- response comes to A while the request waits. It is matched there, and the request waits no more.
pub record IsRunWithLostResponse {C : Type 0} (a b : C) : Type 0 where
  pub exchanged : Exchanged
  pub again : ProbeDatagrams
  pub happenings : List (Happening C)
  pub last : WorldState C
  pub takes : map (λ h. h.event) happenings ≡ lost_response_events exchanged again
  pub says : map (λ h. h.said) happenings ≡ lost_response_outputs exchanged again
  pub trail : IsWorldTrail (λ _. run_meaning) (new_ends a b) happenings last
  -- the last six steps, each in the run and at its end: A asks, and the first copy goes out and comes to B
  pub asking : Happening C
  pub asking_there : slice_get happenings 12 ≡ Some asking
  pub asking_at : slice_get (passages_at A happenings) 6 ≡ Some (passage_at A asking)
  pub first_copy : Happening C
  pub first_there : slice_get happenings 13 ≡ Some first_copy
  pub first_at : slice_get (passages_at A happenings) 7 ≡ Some (passage_at A first_copy)
  pub arriving : Happening C
  pub arriving_there : slice_get happenings 14 ≡ Some arriving
  pub arriving_at : slice_get (passages_at B happenings) 6 ≡ Some (passage_at B arriving)
  -- the second copy goes out and comes to B, and the response to A
  pub second_copy : Happening C
  pub second_there : slice_get happenings 15 ≡ Some second_copy
  pub second_at : slice_get (passages_at A happenings) 8 ≡ Some (passage_at A second_copy)
  pub repeating : Happening C
  pub repeating_there : slice_get happenings 16 ≡ Some repeating
  pub repeating_at : slice_get (passages_at B happenings) 7 ≡ Some (passage_at B repeating)
  pub matching : Happening C
  pub matching_there : slice_get happenings 17 ≡ Some matching
  pub matching_at : slice_get (passages_at A happenings) 9 ≡ Some (passage_at A matching)
  -- premises of the first copy: A's IKE SA before it asks, and B's before the copy comes
  pub asker : Association
  pub answerer : Association
  pub ends : AreEndsOfOne asker answerer
  pub established : IsEstablished answerer.phase
  -- it goes out again, and comes to B
  pub repeated : IsRepeated (λ _. run_meaning) 1 3 asker again.probe (passage_at A asking) [] (passage_at A first_copy)
  pub step : IsPassage (λ _. run_meaning) (passage_at B arriving)
  pub sealing : IsFreshlyGiven (for_ike (passage_at B arriving).given)
  pub arrives : ArrivesAt 1 answerer again.probe (passage_at B arriving)
  pub comes : CopyArrives A 1 1 3 answerer happenings arriving
  pub in_window : IsFreshRequest answerer.incoming 3
  pub memory : wants_memory arriving.said ≡ false
  -- of the second copy: B's IKE SA before that comes, which keeps the response
  pub answerer_then : Association
  pub ends_then : AreEndsOfOne asker answerer_then
  pub near : ¬ IsLeftBehind answerer_then.incoming 3
  pub kept : numbers.get answerer_then.incoming.kept 3 ≡ Some again.response
  -- no response came, so it goes out once more, when the second wait ends
  pub repeated_again : IsRepeated (λ _. run_meaning) 1 3 asker again.probe (passage_at A asking) (passage_at A first_copy ∷ []) (passage_at A second_copy)
  pub not_before : IsDue repeated_again.until.waiting.timer 2999 Nothing
  pub due : IsDue repeated_again.until.waiting.timer 3000 Again
  -- it comes to B, at B's next step
  pub follows : IsTrail (λ _. run_meaning) (passage_at B arriving).after [] (passage_at B repeating).before
  pub step_again : IsPassage (λ _. run_meaning) (passage_at B repeating)
  pub arrives_again : ArrivesAt 1 answerer_then again.probe (passage_at B repeating)
  pub comes_again : CopyArrives A 1 1 3 answerer_then happenings repeating
  pub taken : WasTaken B 1 3 again.response happenings repeating
  pub memory_again : wants_memory repeating.said ≡ false
  -- of the response: A's IKE SA before that comes, and the request, which waits still
  pub asker_then : Association
  pub ends_back : AreEndsOfOne asker_then answerer
  pub waits : WaitsUntil (λ _. run_meaning) 1 3 asker again.probe (passage_at A asking) (passage_at A first_copy ∷ passage_at A second_copy ∷ []) (passage_at A matching)
  pub timer : waits.waiting.timer ≡ record { sent = 3000; repeats = 2 }
  pub arrives_back : ArrivesAt 1 asker_then again.response (passage_at A matching)
  pub response : ResponseArrives A 1 3 happenings matching
  pub memory_at_last : wants_memory matching.said ≡ false
  -- what follows at B of each copy, and at A of the response
  pub takes_effect : TakesEffect 1 3 (passage_at B arriving)
  pub answers : AnswersBy (passage_at B arriving) again.response
  pub says_again : OnlySays (Repeat again.response) (passage_at B repeating)
  pub matched : IsMatched 1 3 (passage_at A matching)
