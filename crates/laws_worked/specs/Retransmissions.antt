-- A run that begins with two new gateways, in which a request comes again, as a retransmission (RFC 7296
-- section 2.1).
use Rattle.std.specs.Prelude.{◌≡◌, ◌++◌, ◌∷◌, false, Some, List, [], map, slice_get}
use Rattle.std.specs.FinMap as numbers
use Rattle.requests.specs.Incoming.{IsLeftBehind}
use Rattle.association.specs.declared.phase.Association.{Association}
use Rattle.gateway.specs.Histories.{Passage}
use Rattle.gateway.specs.Inputs.{Event}
use Rattle.gateway.specs.Outputs.{wants_memory, OutputView, Repeat}
use Rattle.gateway.specs.Requests.{for_ike, AnswersBy, IsFirstReply, IsNew, OnlySays, Opens, TakesEffect}
use Rattle.gateway.specs.States.{association_in}
use Rattle.gateway.specs.WorldHistories.{passages_at, Happening, IsWorldTrail}
use Rattle.gateway.specs.Worlds.{WorldState}
use Rattle.gateway.specs.declared.world.stored.End.TheVariants.{B}
use Rattle.laws_two_ends.specs.WorkedRuns.{comes_to, new_ends, run_meaning, Exchanged}
use Rattle.laws_worked.specs.Replays.{replay_events, replay_outputs}

-- After the packet has come twice, the probe comes to B again.
abbrev pub retransmission_events : Exchanged → List Event
retransmission_events e = replay_events e ++ comes_to B e.probe 9 ∷ []

-- The response goes out again, in the same octets.
abbrev pub retransmission_outputs : Exchanged → List OutputView
retransmission_outputs e = replay_outputs e ++ Repeat e.probe_response ∷ []

-- There is such a run. Six of its steps are B's. At the fourth the probe is new, as the request with Message
-- ID 2 of B's IKE SA; it is processed, and is answered. At the sixth it opens as the same request again. It is
-- not new then, and none a window above it has taken effect, so its response is kept. B answers it by the
-- same octets, and stays as it is.
pub record IsRunWithRetransmission {C : Type 0} (a b : C) : Type 0 where
  pub exchanged : Exchanged
  pub happenings : List (Happening C)
  pub last : WorldState C
  pub takes : map (λ h. h.event) happenings ≡ retransmission_events exchanged
  pub says : map (λ h. h.said) happenings ≡ retransmission_outputs exchanged
  pub trail : IsWorldTrail (λ _. run_meaning) (new_ends a b) happenings last
  -- premises at the first arrival
  pub first : Passage C
  pub first_there : slice_get (passages_at B happenings) 3 ≡ Some first
  pub at_first : Association
  pub at_first_held : association_in first.before 1 ≡ Some at_first
  pub is_new : IsNew run_meaning (for_ike first.given) at_first 2
  pub is_first : IsFirstReply 1 2 exchanged.probe_response first
  -- and at the second
  pub second : Passage C
  pub second_there : slice_get (passages_at B happenings) 5 ≡ Some second
  pub memory : wants_memory second.said ≡ false
  pub later : Association
  pub later_held : association_in second.before 1 ≡ Some later
  pub opens : Opens run_meaning (for_ike second.given) later 2
  pub near : ¬ IsLeftBehind later.incoming 2
  pub kept : numbers.get later.incoming.kept 2 ≡ Some exchanged.probe_response
  pub not_new : ¬ IsNew run_meaning (for_ike second.given) later 2
  -- what follows at each
  pub takes_effect : TakesEffect 1 2 first
  pub answers : AnswersBy first exchanged.probe_response
  pub only_says : OnlySays (Repeat exchanged.probe_response) second
