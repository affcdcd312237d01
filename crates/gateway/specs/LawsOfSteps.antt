-- What a step leaves unchanged, and that its result is determined.
use Rattle.std.specs.List.{AllByRecursion}
use Rattle.std.specs.Prelude.{◌≡◌, ◌<◌, ◌≤◌, ◌^◌, [], false, length, map, max, ℕ, List, Option}
use Rattle.base.specs.Octets.{Octets}
use Rattle.suite.specs.declared.fresh.Fresh.{Fresh}
use Rattle.sadb.specs.Database.{IsAsBefore}
use Rattle.effects.specs.Taking.{Meaning}
use Rattle.moments.specs.Next.{IsBefore, NothingIsDueBefore, SomethingIsDue}
use Rattle.ike.specs.Lengths.{HoldWholeKeys}
use Rattle.ike.specs.Moments.{IsTimely}
use Rattle.ike.specs.declared.output.Trace.{Trace}
use Rattle.gateway.specs.Contents.{state_content}
use Rattle.gateway.specs.Inputs.{Input}
use Rattle.gateway.specs.Inputs as input
use Rattle.gateway.specs.Lengths.{IsGiven}
use Rattle.gateway.specs.Outputs.{output_view, wants_memory, IsQuiet, OutputView, Refused, Ticked}
use Rattle.gateway.specs.Runs.{Runs, StepsAs}
use Rattle.gateway.specs.States.{State}
use Rattle.gateway.specs.Steps.{Steps, Traces}
use Rattle.gateway.specs.declared.fault.Reason.{Reason}
use Rattle.gateway.specs.declared.output.Output.{Output}

-- for any type of provider
module _ (C : Type 0) where
  -- ---- refusals_change_nothing
  abbrev pub PolicyAndCallerStay : Type 0
  PolicyAndCallerStay = (meaning : Meaning) (given : Input) (said : OutputView) (old new : State C)
      → Steps meaning given old said new
      → (new.entries ≡ old.entries) × (new.caller ≡ old.caller)

  abbrev pub RefusalsChangeNothing : Type 0
  RefusalsChangeNothing = (meaning : Meaning) (given : Input) (reason : Reason) (old new : State C)
      → Steps meaning given old (Refused reason) new
      → (new ≡ record old { table = new.table }) × IsAsBefore old.table new.table

  -- ---- what_is_quiet_changes_nothing
  abbrev pub WhatIsQuietChangesNothing : Type 0
  WhatIsQuietChangesNothing = (meaning : Meaning) (from octets : Octets) (fresh : Fresh) (said : OutputView)
      (old new : State C)
      → Steps meaning (input.Ike from octets fresh) old said new
      → IsQuiet said
      → new ≡ old

  -- ---- steps_are_determined
  abbrev pub TracesAreDetermined : Type 0
  TracesAreDetermined = (meaning : Meaning) (given : Input) (old other a b : State C) (one two : OutputView)
      (trace another : Trace)
      → IsGiven meaning given
      → HoldWholeKeys old.machine.held
      → state_content old ≡ state_content other
      → wants_memory one ≡ false
      → wants_memory two ≡ false
      → Traces meaning given old one trace a
      → Traces meaning given other two another b
      → (one ≡ two) × (trace ≡ another) × (state_content a ≡ state_content b)

  abbrev pub StepsAreDetermined : Type 0
  StepsAreDetermined = (meaning : Meaning) (given : Input) (old other a b : State C) (one two : OutputView)
      → IsGiven meaning given
      → HoldWholeKeys old.machine.held
      → state_content old ≡ state_content other
      → wants_memory one ≡ false
      → wants_memory two ≡ false
      → Steps meaning given old one a
      → Steps meaning given other two b
      → (one ≡ two) × (state_content a ≡ state_content b)

  abbrev pub RunsAreDetermined : Type 0
  RunsAreDetermined = (meaning_of : C → Meaning) (inputs : List Input) (ones twos : List Output)
      (old other a b : State C)
      → AllByRecursion (IsGiven (meaning_of old.caller)) inputs
      → AllByRecursion (λ output. wants_memory (output_view output) ≡ false) ones
      → AllByRecursion (λ output. wants_memory (output_view output) ≡ false) twos
      → HoldWholeKeys old.machine.held
      → state_content old ≡ state_content other
      → Runs (StepsAs meaning_of) inputs ones old a
      → Runs (StepsAs meaning_of) inputs twos other b
      → (map output_view ones ≡ map output_view twos) × (state_content a ≡ state_content b)

  abbrev pub KeysStayWhole : Type 0
  KeysStayWhole = (meaning : Meaning) (given : Input) (old new : State C) (said : OutputView)
      → HoldWholeKeys old.machine.held
      → Steps meaning given old said new
      → HoldWholeKeys new.machine.held

  -- ---- nothing_comes_before_the_next_moment
  abbrev pub NothingComesBeforeTheNextMoment : Type 0
  NothingComesBeforeTheNextMoment = (meaning : Meaning) (next : Option ℕ) (moment : ℕ) (old new : State C)
      (said : OutputView)
      → IsTimely old.machine
      → NothingIsDueBefore next old.machine.held.associations
      → moment < 2 ^ 64
      → IsBefore moment next
      → Steps meaning (input.Tick moment) old said new
      → (said ≡ Ticked [] [])
      × (new ≡ record old { machine = record old.machine { moment = max old.machine.moment moment } })

  -- ---- the_next_moment_brings_something
  abbrev pub TheNextMomentBringsSomething : Type 0
  TheNextMomentBringsSomething = (meaning : Meaning) (moment : ℕ) (old new : State C) (said : OutputView)
      → old.machine.moment ≤ moment
      → SomethingIsDue moment old.machine.held.associations
      → Steps meaning (input.Tick moment) old said new
      → wants_memory said ≡ false
      → ¬ ((said ≡ Ticked [] [])
      × (length new.machine.held.associations ≡ length old.machine.held.associations))
