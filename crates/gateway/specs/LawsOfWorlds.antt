-- What holds of two gateways: what is stored of them, and their requests.
use Rattle.std.specs.Prelude.{flat_map, ℕ, Bool, List}
use Rattle.base.specs.Octets.{Octets}
use Rattle.suite.specs.declared.key_record.KeyRecord.{KeyRecord}
use Rattle.effects.specs.Taking.{Meaning}
use Rattle.gateway.specs.Histories.{IsHistory}
use Rattle.gateway.specs.Inputs.{Event}
use Rattle.gateway.specs.Runs.{Runs, StepsAs}
use Rattle.gateway.specs.States.{State}
use Rattle.gateway.specs.WorldHistories.{passages_at, Happening, IsWorldHistory, IsWorldTrail}
use Rattle.gateway.specs.WorldParties.{HasSent, IsNeverMadeTwice, IsSoundUnder}
use Rattle.gateway.specs.WorldPromises.{EndsAgree, IsUnforged, IsUnforgedByThen, KeepsWorldPromises, StaysSound}
use Rattle.gateway.specs.WorldRuns.{inputs_at, outputs_at, CallsWorldAs, HappensAs, IsLater}
use Rattle.gateway.specs.Worlds.{gateway_at, new_world, HoldsNothing, Stored, WorldState}
use Rattle.gateway.specs.declared.output.Output.{Output}
use Rattle.gateway.specs.declared.world.stored.End.{End}

-- for any type of provider
module _ (C : Type 0) where
  -- ---- each_end_has_its_events
  abbrev pub EachEndHasItsRun : Type 0
  EachEndHasItsRun = (meaning_of : C → Meaning) (end : End) (events : List Event) (outputs : List Output)
      (old new : WorldState C)
      → Runs (HappensAs meaning_of) events outputs old new
      → Runs (StepsAs meaning_of) (inputs_at end events) (outputs_at end events outputs) (gateway_at end old)
      (gateway_at end new)

  abbrev pub EachEndHasItsHistory : Type 0
  EachEndHasItsHistory = (meaning_of : C → Meaning) (end : End) (events : List Event) (outputs : List Output)
      (old new : WorldState C) (happenings : List (Happening C))
      → IsWorldHistory meaning_of events outputs old new happenings
      → IsHistory meaning_of (inputs_at end events) (outputs_at end events outputs) (gateway_at end old)
      (gateway_at end new) (passages_at end happenings)

  -- ---- what_is_stored_stays
  abbrev pub WhatIsStoredStays : Type 0
  WhatIsStoredStays = (meaning_of : C → Meaning) (events : List Event) (outputs : List Output)
      (old new : WorldState C)
      → Runs (HappensAs meaning_of) events outputs old new
      → IsLater old.stored new.stored

  -- ---- every_world_stays_sound
  abbrev pub NewWorldsAreSound : Type 0
  NewWorldsAreSound = (keys : KeyRecord) (a b : State C)
      → HoldsNothing a
      → HoldsNothing b
      → IsSoundUnder keys (new_world a b)

  abbrev pub EveryTrailStaysSound : Type 0
  EveryTrailStaysSound = (meaning_of : C → Meaning) (happenings : List (Happening C)) (old new : WorldState C)
      → IsWorldTrail meaning_of old happenings new
      → StaysSound meaning_of happenings old new

  abbrev pub EveryWorldStaysSound : Type 0
  EveryWorldStaysSound = (meaning_of : C → Meaning) (events : List Event) (outputs : List Output)
      (old new : WorldState C)
      → Runs (HappensAs meaning_of) events outputs old new
      → KeepsWorldPromises meaning_of events outputs old new

  abbrev pub EveryWorldStaysSoundOverCalls : Type 0
  EveryWorldStaysSoundOverCalls = (meaning_of : C → Meaning) (lists : List (List Event))
      (outputs : List (List Output)) (old new : WorldState C)
      → Runs (CallsWorldAs meaning_of) lists outputs old new
      → KeepsWorldPromises meaning_of (flat_map (λ events. events) lists)
      (flat_map (λ list. list) outputs) old new

  abbrev pub WhatIsUnforgedByThenIsUnforged : Type 0
  WhatIsUnforgedByThenIsUnforged = (meaning_of : C → Meaning) (keys : KeyRecord)
      (happenings : List (Happening C)) (old new : WorldState C)
      → IsWorldTrail meaning_of old happenings new
      → IsUnforgedByThen meaning_of keys happenings
      → IsUnforged meaning_of keys happenings new.stored

  -- ---- ends_of_a_sound_world_agree
  abbrev pub EndsOfASoundWorldAgree : Type 0
  EndsOfASoundWorldAgree = (keys : KeyRecord) (world : WorldState C)
      → IsSoundUnder keys world
      → EndsAgree keys world

-- ---- every_world_stays_sound: the parts that speak of no provider
abbrev pub WhatIsNotMadeTwiceWasNot : Type 0
WhatIsNotMadeTwiceWasNot = (keys : KeyRecord) (now later : Stored)
    → IsLater now later
    → IsNeverMadeTwice keys later
    → IsNeverMadeTwice keys now

abbrev pub WhatWasSentStaysSent : Type 0
WhatWasSentStaysSent = (end : End) (keys : KeyRecord) (response : Bool) (number : ℕ) (octets : Octets)
    (now later : Stored)
    → IsLater now later
    → HasSent end keys response number octets now
    → HasSent end keys response number octets later
