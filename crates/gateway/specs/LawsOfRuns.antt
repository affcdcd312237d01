-- What is promised of runs, over however many inputs and calls.
use Rattle.std.specs.Prelude.{◌≡◌, ◌++◌, ℕ, Some, flat_map, slice_get, List}
use Rattle.policy.specs.declared.entry.Entry.{Entry}
use Rattle.suite.specs.declared.key_record.KeyRecord.{KeyRecord}
use Rattle.setup.specs.declared.config.Config.{Config}
use Rattle.effects.specs.Taking.{Meaning}
use Rattle.gateway.specs.Authentication.{IsEstablishedWith, ProvedItselfUpTo}
use Rattle.gateway.specs.Histories.{IsHistory, Passage}
use Rattle.gateway.specs.Inputs.{Input}
use Rattle.gateway.specs.Promises.{KeepsPromises}
use Rattle.gateway.specs.Runs.{CallsAs, Runs, StepsAs}
use Rattle.gateway.specs.States.{new_gateway, State}
use Rattle.gateway.specs.declared.output.Output.{Output}

-- for any type of provider
module _ (C : Type 0) where
  -- ---- every_run_keeps_its_promises
  abbrev pub EveryRunKeepsItsPromises : Type 0
  EveryRunKeepsItsPromises = (meaning_of : C → Meaning) (inputs : List Input) (outputs : List Output)
      (old new : State C)
      → Runs (StepsAs meaning_of) inputs outputs old new
      → KeepsPromises meaning_of inputs outputs old new

  -- ---- the_established_of_new_gateways_proved_themselves
  abbrev pub TheEstablishedOfNewGatewaysProvedThemselves : Type 0
  TheEstablishedOfNewGatewaysProvedThemselves = (meaning_of : C → Meaning) (config : Config)
      (entries : List Entry) (start : ℕ) (caller : C) (new : State C) (inputs : List Input)
      (outputs : List Output) (passages : List (Passage C)) (place serial : ℕ) (keys : KeyRecord) (p : Passage C)
      → IsHistory meaning_of inputs outputs (new_gateway config entries start caller) new passages
      → slice_get passages place ≡ Some p
      → IsEstablishedWith p.after serial keys
      → ProvedItselfUpTo meaning_of passages place serial keys

  -- ---- runs_in_a_row_are_one_run
  abbrev pub RunsInARowAreOneRun : Type 0
  RunsInARowAreOneRun = (meaning_of : C → Meaning) (first second : List Input) (outputs others : List Output)
      (old between new : State C)
      → Runs (StepsAs meaning_of) first outputs old between
      → Runs (StepsAs meaning_of) second others between new
      → Runs (StepsAs meaning_of) (first ++ second) (outputs ++ others) old new

  abbrev pub HistoriesInARowAreOneHistory : Type 0
  HistoriesInARowAreOneHistory = (meaning_of : C → Meaning) (first second : List Input)
      (outputs others : List Output) (old between new : State C) (earlier later : List (Passage C))
      → IsHistory meaning_of first outputs old between earlier
      → IsHistory meaning_of second others between new later
      → IsHistory meaning_of (first ++ second) (outputs ++ others) old new (earlier ++ later)

  abbrev pub CallsInARowAreOneRun : Type 0
  CallsInARowAreOneRun = (meaning_of : C → Meaning) (lists : List (List Input)) (outputs : List (List Output))
      (old new : State C)
      → Runs (CallsAs meaning_of) lists outputs old new
      → Runs (StepsAs meaning_of) (flat_map (λ inputs. inputs) lists)
      (flat_map (λ list. list) outputs) old new

  abbrev pub CallsInARowKeepTheirPromises : Type 0
  CallsInARowKeepTheirPromises = (meaning_of : C → Meaning) (lists : List (List Input))
      (outputs : List (List Output)) (old new : State C)
      → Runs (CallsAs meaning_of) lists outputs old new
      → KeepsPromises meaning_of (flat_map (λ inputs. inputs) lists) (flat_map (λ list. list) outputs) old new
