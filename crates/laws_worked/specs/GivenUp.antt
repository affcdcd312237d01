-- A run that begins with two new gateways, in which a request is never answered. It goes out six times, its
-- IKE SA is closed, and two minutes later it is removed (RFC 7296 sections 2.1 and 2.4). Times are in
-- milliseconds.
use Rattle.std.specs.Prelude.{◌≡◌, ◌≢◌, ◌+◌, ◌≤◌, ◌++◌, ◌∷◌, ℕ, true, Some, List, [], length, map, slice_get}
use Rattle.base.specs.Octets.{Octets}
use Rattle.wire.specs.Numbers.{IKE_SA_INIT}
use Rattle.suite.specs.declared.fresh.Fresh.{Fresh}
use Rattle.requests.specs.Timers.{waits, IsDue}
use Rattle.requests.specs.declared.timer.Due.TheVariants.{Again, Over}
use Rattle.sadb.specs.Database.{BelongsTo}
use Rattle.association.specs.Purposes.{exchange_of}
use Rattle.association.specs.declared.phase.Request.{Request as Waiting}
use Rattle.moments.specs.Due.{CLOSED_TIME}
use Rattle.moments.specs.declared.resent.Resent.{Resent}
use Rattle.ike.specs.Moments.{IsTimely}
use Rattle.gateway.specs.Histories.{IsTrail, Passage}
use Rattle.gateway.specs.Inputs.{Event}
use Rattle.gateway.specs.Inputs as input
use Rattle.gateway.specs.Outputs.{OutputView, Request, Ticked}
use Rattle.gateway.specs.WorldHistories.{passages_at, Happening, IsWorldTrail}
use Rattle.gateway.specs.Worlds.{WorldState}
use Rattle.gateway.specs.declared.world.stored.End.TheVariants.{A}
use Rattle.laws_two_ends.specs.WorkedRecords.{fresh_of, worked_record}
use Rattle.laws_two_ends.specs.WorkedRuns.{new_ends, run_meaning, Exchanged}
use Rattle.laws_recovery.specs.Beginning.{MayBegin}
use Rattle.laws_recovery.specs.Removing.{ClosedBefore, IsRemoved}
use Rattle.laws_recovery.specs.Waiting.{times_again, Brings, GoesOutAgain, IsGivenUp, WaitsAfter, WaitsBefore, WaitsThroughout}
use Rattle.laws_worked.specs.Retransmissions.{retransmission_events, retransmission_outputs}

-- A is told this time
abbrev pub told_at : ℕ → Event
told_at moment = record { end = A; input = input.Tick moment }

-- After the first probe has come twice, A is told to ask again. Then it is told times alone, and nothing
-- comes to either end.
abbrev pub given_up_events : Exchanged → List Event
given_up_events e =
    retransmission_events e ++ record { end = A; input = input.Probe 1 (fresh_of 10) }
    ∷ told_at 1000
    ∷ told_at 3000
    ∷ told_at 7000
    ∷ told_at 15000
    ∷ told_at 31000
    ∷ told_at 47000
    ∷ told_at 167000
    ∷ []

-- the request with Message ID 3 of A's IKE SA, of these octets, as it goes out again
abbrev pub probe_again : Octets → Resent
probe_again probe = record { ike = 1; number = 3; encrypted = true; octets = probe }

-- At the first five of these times the same octets go out again. At the sixth none do, and the IKE SA is
-- closed. At the last nothing goes out.
abbrev pub given_up_outputs : Exchanged → Octets → List OutputView
given_up_outputs e probe =
    retransmission_outputs e ++ Request 1 probe
    ∷ Ticked (probe_again probe ∷ []) []
    ∷ Ticked (probe_again probe ∷ []) []
    ∷ Ticked (probe_again probe ∷ []) []
    ∷ Ticked (probe_again probe ∷ []) []
    ∷ Ticked (probe_again probe ∷ []) []
    ∷ Ticked [] (1 ∷ [])
    ∷ Ticked [] []
    ∷ []

-- There is such a run. At the seventh of A's steps the request goes out first, at the time 0, and waits from
-- then on. It waits before each of the next five, at each of which it goes out again. At the thirteenth its
-- last wait is over: the IKE SA is closed, and its SA pair goes with it. At the fourteenth, two minutes
-- later, the IKE SA is removed. Then another may begin, by any fresh SPI but zero.
pub record IsRunGivenUp {C : Type 0} (a b : C) : Type 0 where
  pub exchanged : Exchanged
  -- the octets of the second probe
  pub probe : Octets
  pub happenings : List (Happening C)
  pub last : WorldState C
  pub takes : map (λ h. h.event) happenings ≡ given_up_events exchanged
  pub says : map (λ h. h.said) happenings ≡ given_up_outputs exchanged probe
  pub trail : IsWorldTrail (λ _. run_meaning) (new_ends a b) happenings last
  -- the request goes out first; it isn't one of IKE_SA_INIT
  pub request : Waiting
  pub request_octets : request.octets ≡ probe
  pub timer : request.timer ≡ record { sent = 0; repeats = 0 }
  pub keyed : exchange_of request.purpose ≢ IKE_SA_INIT
  pub asking : Passage C
  pub asking_there : slice_get (passages_at A happenings) 6 ≡ Some asking
  pub sends : asking.said ≡ Request 1 probe
  pub starts_to_wait : WaitsAfter 1 3 request asking
  -- its first wait ends, and it goes out again
  pub first : Passage C
  pub first_there : slice_get (passages_at A happenings) 7 ≡ Some first
  pub waits_first : WaitsBefore 1 3 request first
  pub brings : Brings 1000 first
  pub due : IsDue request.timer 1000 Again
  pub out : GoesOutAgain 1 3 request first
  -- so it does at the next four steps, and it waits before each
  pub second : Passage C
  pub second_there : slice_get (passages_at A happenings) 8 ≡ Some second
  pub third : Passage C
  pub third_there : slice_get (passages_at A happenings) 9 ≡ Some third
  pub fourth : Passage C
  pub fourth_there : slice_get (passages_at A happenings) 10 ≡ Some fourth
  pub fifth : Passage C
  pub fifth_there : slice_get (passages_at A happenings) 11 ≡ Some fifth
  pub through : WaitsThroughout 1 3 (first ∷ second ∷ third ∷ fourth ∷ fifth ∷ [])
  pub times : times_again 1 3 (first ∷ second ∷ third ∷ fourth ∷ fifth ∷ []) ≡ length waits
  -- it was sent for the last time, and no answer came in time
  pub giving_up : Passage C
  pub giving_up_there : slice_get (passages_at A happenings) 12 ≡ Some giving_up
  pub in_a_row : IsTrail (λ _. run_meaning) asking.after (first ∷ second ∷ third ∷ fourth ∷ fifth ∷ []) giving_up.before
  pub timely : IsTimely giving_up.before.machine
  pub last_request : Waiting
  pub waits_last : WaitsBefore 1 3 last_request giving_up
  pub brings_last : Brings 47000 giving_up
  pub over : IsDue last_request.timer 47000 Over
  pub given_up : IsGivenUp 1 47000 giving_up
  -- the SA pair of its Child SA goes then
  pub carries : BelongsTo giving_up.before.table.pairs 1 1
  pub carries_no_more : (child : ℕ) → ¬ BelongsTo giving_up.after.table.pairs 1 child
  -- two minutes later the IKE SA is removed
  pub removing : Passage C
  pub removing_there : slice_get (passages_at A happenings) 13 ≡ Some removing
  pub closed : ClosedBefore 1 (Some worked_record) 47000 removing
  pub brings_removal : Brings 167000 removing
  pub long_enough : 47000 + CLOSED_TIME ≤ 167000
  pub removed : IsRemoved 1 removing
  -- and another may begin
  pub may_begin : (fresh : Fresh) → fresh.spi ≢ 0 → MayBegin 0 fresh removing.after
