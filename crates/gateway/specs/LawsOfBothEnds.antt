-- What two gateways agree on beside their requests: Child SAs, packets and windows.
use Rattle.std.specs.Prelude.{flat_map, List, []}
use Rattle.base.specs.Octets.{Octets}
use Rattle.suite.specs.declared.key_record.KeyRecord.{KeyRecord}
use Rattle.suite.specs.declared.keys.Keys.{Keys}
use Rattle.association.specs.Receiving.{Opening}
use Rattle.effects.specs.Taking.{Meaning}
use Rattle.gateway.specs.BothEnds.{IsWhollySound, KeepsBothEnds, PromisesOfBothEnds}
use Rattle.gateway.specs.Exchanges.{HoldOneRecord}
use Rattle.gateway.specs.Inputs.{Event}
use Rattle.gateway.specs.Runs.{Runs}
use Rattle.gateway.specs.States.{IsSoundState, State}
use Rattle.gateway.specs.WorldHistories.{Happening, IsWorldTrail}
use Rattle.gateway.specs.WorldParties.{IsNeverMadeTwice, IsSoundUnder}
use Rattle.gateway.specs.WorldPromises.{IsUnforged}
use Rattle.gateway.specs.WorldRuns.{CallsWorldAs}
use Rattle.gateway.specs.WorldWindows.{AccountsForWindows, WindowsFit}
use Rattle.gateway.specs.Worlds.{new_world, HoldsNothing, WorldState}
use Rattle.gateway.specs.declared.output.Output.{Output}

-- for any type of provider
module _ (C : Type 0) where
  -- ---- new_worlds_are_wholly_sound
  abbrev pub NewWorldsAreWhollySound : Type 0
  NewWorldsAreWhollySound = (body_of : Keys → Octets → Octets → Octets → Octets) (plain_of : Opening)
      (keys : KeyRecord) (a b : State C)
      → HoldsNothing a
      → HoldsNothing b
      → IsSoundState a
      → IsSoundState b
      → IsWhollySound body_of plain_of keys (new_world a b)

  -- ---- both_ends_hold_one_record
  abbrev pub BothEndsHoldOneRecord : (C → Meaning) → Type 0
  BothEndsHoldOneRecord meaning_of = (happenings : List (Happening C)) (old new : WorldState C)
      → IsWorldTrail meaning_of old happenings new
      → HoldOneRecord happenings new

  -- ---- both_ends_keep_their_promises
  abbrev pub BothEndsKeepTheirPromises : (Keys → Octets → Octets → Octets → Octets) → Opening → (C → Meaning)
      → Type 0
  BothEndsKeepTheirPromises body_of plain_of meaning_of = (happenings : List (Happening C))
      (old new : WorldState C)
      → IsWorldTrail meaning_of old happenings new
      → PromisesOfBothEnds body_of plain_of meaning_of happenings old new

  -- ---- calls_in_a_row_keep_both_ends
  abbrev pub CallsInARowKeepBothEnds : (Keys → Octets → Octets → Octets → Octets) → Opening → (C → Meaning)
      → Type 0
  CallsInARowKeepBothEnds body_of plain_of meaning_of = (lists : List (List Event))
      (outputs : List (List Output)) (old new : WorldState C)
      → Runs (CallsWorldAs meaning_of) lists outputs old new
      → KeepsBothEnds body_of plain_of meaning_of (flat_map (λ events. events) lists) old [] new
      (flat_map (λ list. list) outputs)

  -- ---- windows_are_those_told
  abbrev pub WindowsStayAccountedFor : (Keys → Octets → Octets → Octets → Octets) → Opening → (C → Meaning)
      → Type 0
  WindowsStayAccountedFor body_of plain_of meaning_of = (keys : KeyRecord) (happenings : List (Happening C))
      (old new : WorldState C)
      → IsWorldTrail meaning_of old happenings new
      → IsSoundUnder keys old
      → AccountsForWindows body_of plain_of keys old old.stored
      → IsUnforged meaning_of keys happenings new.stored
      → IsNeverMadeTwice keys new.stored
      → AccountsForWindows body_of plain_of keys new new.stored

  abbrev pub WindowsAccountedForFit : (Keys → Octets → Octets → Octets → Octets) → Opening → Type 0
  WindowsAccountedForFit body_of plain_of = (keys : KeyRecord) (world : WorldState C)
      → AccountsForWindows body_of plain_of keys world world.stored
      → WindowsFit keys world
