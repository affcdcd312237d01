-- A run that begins with two new gateways, in which a request is lost and is retransmitted (RFC 7296
-- sections 2.1 and 2.4). Times are in milliseconds.
use Rattle.std.specs.Prelude.{◌≡◌, ◌++◌, ◌∷◌, false, true, None, Some, List, [], map, max, slice_get}
use Rattle.base.specs.Octets.{Octets}
use Rattle.exchange.specs.Headers.{other_role}
use Rattle.requests.specs.Timers.{IsDue}
use Rattle.requests.specs.declared.timer.Due.TheVariants.{Again, Nothing}
use Rattle.association.specs.Phases.{keys_in}
use Rattle.association.specs.declared.phase.Association.{Association}
use Rattle.association.specs.declared.phase.Phase.TheVariants.{Established}
use Rattle.association.specs.declared.phase.Request.{Request as Waiting}
use Rattle.moments.specs.declared.resent.Resent.{Resent}
use Rattle.ike.specs.Moments.{WaitsAt}
use Rattle.gateway.specs.Histories.{Passage}
use Rattle.gateway.specs.Inputs.{Event}
use Rattle.gateway.specs.Inputs as input
use Rattle.gateway.specs.Moments.{Brings}
use Rattle.gateway.specs.Outputs.{wants_memory, Counted, OutputView, Reply, Request, Ticked}
use Rattle.gateway.specs.Requests.{for_ike, AnswersBy, IsNew, TakesEffect}
use Rattle.gateway.specs.States.{association_in}
use Rattle.gateway.specs.WorldHistories.{passages_at, Happening, IsWorldTrail}
use Rattle.gateway.specs.Worlds.{WorldState}
use Rattle.gateway.specs.declared.world.stored.End.TheVariants.{A, B}
use Rattle.laws_two_ends.specs.WorkedRecords.{fresh_of, worked_record}
use Rattle.laws_two_ends.specs.WorkedRuns.{comes_to, new_ends, run_meaning, Exchanged}
use Rattle.laws_worked.specs.Retransmissions.{retransmission_events, retransmission_outputs}

-- the datagrams of the second probe
pub record ProbeDatagrams : Type 0 where
  pub probe : Octets
  pub response : Octets

-- After the first probe has come twice, A is told to ask again. One second later the request is retransmitted.
-- Of the two copies one comes to B, and the response comes to A.
abbrev pub recovery_events : Exchanged → ProbeDatagrams → List Event
recovery_events e again =
    retransmission_events e ++ record { end = A; input = input.Probe 1 (fresh_of 10) }
    ∷ record { end = A; input = input.Tick 1000 }
    ∷ comes_to B again.probe 11
    ∷ comes_to A again.response 12
    ∷ []

-- the request with Message ID 3 of A's IKE SA, as it is retransmitted
abbrev pub sent_again : ProbeDatagrams → Resent
sent_again again = record { ike = 1; number = 3; encrypted = true; octets = again.probe }

abbrev pub recovery_outputs : Exchanged → ProbeDatagrams → List OutputView
recovery_outputs e again =
    retransmission_outputs e ++ Request 1 again.probe
    ∷ Ticked (sent_again again ∷ []) []
    ∷ Reply again.response None
    ∷ Counted 1 None None
    ∷ []

-- There is such a run. At the seventh of A's steps the request goes out first, at the time 0, and waits from
-- then on. It isn't due at 999, and is due at 1000, which is told at the eighth step. There it is
-- retransmitted, in the same octets. At the seventh of B's steps it is new at the other end of that IKE SA,
-- which is established; it is processed and answered. At A's ninth the IKE SA has the same SPIs and keys
-- still. The response is matched there, and the request waits no more.
pub record IsRunWithRecovery {C : Type 0} (a b : C) : Type 0 where
  pub exchanged : Exchanged
  pub again : ProbeDatagrams
  pub happenings : List (Happening C)
  pub last : WorldState C
  pub takes : map (λ h. h.event) happenings ≡ recovery_events exchanged again
  pub says : map (λ h. h.said) happenings ≡ recovery_outputs exchanged again
  pub trail : IsWorldTrail (λ _. run_meaning) (new_ends a b) happenings last
  -- premises: the request goes out first
  pub request : Waiting
  pub request_octets : request.octets ≡ again.probe
  pub timer : request.timer ≡ record { sent = 0; repeats = 0 }
  pub asking : Passage C
  pub asking_there : slice_get (passages_at A happenings) 6 ≡ Some asking
  pub asker : Association
  pub asker_held : association_in asking.before 1 ≡ Some asker
  pub asker_keyed : keys_in asker.phase ≡ Some worked_record
  pub waits_not_yet : (other : Waiting) → ¬ WaitsAt asking.before.machine.held 1 3 other
  pub sends : asking.said ≡ Request 1 again.probe
  pub starts_to_wait : WaitsAt asking.after.machine.held 1 3 request
  -- its first wait ends
  pub ticking : Passage C
  pub ticking_there : slice_get (passages_at A happenings) 7 ≡ Some ticking
  pub waits : WaitsAt ticking.before.machine.held 1 3 request
  pub not_before : IsDue request.timer 999 Nothing
  pub due : IsDue request.timer 1000 Again
  pub moment_before : ticking.before.machine.moment ≡ 0
  pub moment : ticking.given ≡ input.Tick 1000
  pub greatest : max ticking.before.machine.moment 1000 ≡ 1000
  pub memory : wants_memory ticking.said ≡ false
  -- the copy comes to the other end
  pub arriving : Passage C
  pub arriving_there : slice_get (passages_at B happenings) 6 ≡ Some arriving
  pub answerer : Association
  pub answerer_held : association_in arriving.before 1 ≡ Some answerer
  pub answerer_established : answerer.phase ≡ Established worked_record
  pub same_spis : (answerer.spi_i ≡ asker.spi_i) × (answerer.spi_r ≡ asker.spi_r)
  pub opposite : answerer.role ≡ other_role asker.role
  pub is_new : IsNew run_meaning (for_ike arriving.given) answerer 3
  -- and the response comes back
  pub matching : Passage C
  pub matching_there : slice_get (passages_at A happenings) 8 ≡ Some matching
  pub later : Waiting
  pub later_octets : later.octets ≡ again.probe
  pub still_waits : WaitsAt matching.before.machine.held 1 3 later
  pub asker_then : Association
  pub asker_then_held : association_in matching.before 1 ≡ Some asker_then
  pub asker_then_keyed : keys_in asker_then.phase ≡ Some worked_record
  pub same_spis_then : (answerer.spi_i ≡ asker_then.spi_i) × (answerer.spi_r ≡ asker_then.spi_r)
  pub opposite_then : answerer.role ≡ other_role asker_then.role
  -- what follows at each of these steps but the first
  pub brings : Brings 1000 ticking
  pub goes_out_again : ticking.said ≡ Ticked (sent_again again ∷ []) []
  pub takes_effect : TakesEffect 1 3 arriving
  pub answers : AnswersBy arriving again.response
  pub matched : matching.said ≡ Counted 1 None None
  pub waits_no_more : (other : Waiting) → ¬ WaitsAt matching.after.machine.held 1 3 other
