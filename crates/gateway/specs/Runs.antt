-- A run: a list of inputs and their outputs in order, of a gateway or of the events at two ends.
use Rattle.std.specs.Prelude.{◌≡◌, ◌<◌, ◌++◌, ℕ, List, [], ◌∷◌, length, take}
use Rattle.effects.specs.Taking.{Meaning}
use Rattle.gateway.specs.Inputs.{Input}
use Rattle.gateway.specs.Outputs.{output_view}
use Rattle.gateway.specs.Promises.{KeepsPromises}
use Rattle.gateway.specs.States.{IsSoundState, State}
use Rattle.gateway.specs.Steps.{Steps}
use Rattle.gateway.specs.declared.fault.RunFault.{RunFault}
use Rattle.gateway.specs.declared.fault.RunFault.TheVariants.{NoRoom}
use Rattle.gateway.specs.declared.output.Output.{Output}

-- each input in order, by such a step, and its output
abbrev pub Runs : {I O S : Type 0} → (I → S → O → S → Type 0) → List I → List O → S → S → Type 0
Runs {I} {O} {S} step [] [] old new = new ≡ old
Runs {I} {O} {S} step (i ∷ is) (o ∷ os) old new = (between : S) × step i old o between × Runs step is os between new
Runs {I} {O} {S} step [] (o ∷ os) old new = ⊥
Runs {I} {O} {S} step (i ∷ is) [] old new = ⊥

-- a step of a gateway with what its provider means; before it the gateway's invariant holds
pub record StepsAs {C : Type 0} (meaning_of : C → Meaning) (i : Input) (old : State C) (o : Output) (new : State C) : Type 0 where
  pub sound : IsSoundState old
  pub steps : Steps (meaning_of old.caller) i old (output_view o) new

-- A call with a list of inputs is a run over it. Calls in a row, each from where the one before ended, are
-- a run by this step, over the list of their lists.
abbrev pub CallsAs : {C : Type 0} → (C → Meaning) → List Input → State C → List Output → State C → Type 0
CallsAs {C} meaning_of inputs old outputs new = Runs (StepsAs meaning_of) inputs outputs old new

-- The first so many inputs were taken in order, and their outputs appended. Of them the promises hold.
pub record RunsFirst {C : Type 0} (meaning_of : C → Meaning) (count : ℕ) (inputs : List Input) (old : State C) (before : List Output) (new : State C) (after : List Output) : Type 0 where
  pub outputs : List Output
  pub appended : after ≡ before ++ outputs
  pub runs : Runs (StepsAs meaning_of) (take count inputs) outputs old new
  pub promises : KeepsPromises meaning_of (take count inputs) outputs old new

-- there was no memory for one more output: the list was left before its end
abbrev pub Stops : {C : Type 0} → (C → Meaning) → List Input → State C → List Output → RunFault → State C → List Output → Type 0
Stops {C} meaning_of inputs old before (NoRoom count) new after =
    (count < length inputs) × RunsFirst meaning_of count inputs old before new after
