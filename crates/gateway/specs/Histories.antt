-- A run as the list of its steps (an execution).
use Rattle.std.specs.Prelude.{◌≡◌, List, [], ◌∷◌, map}
use Rattle.effects.specs.Taking.{Meaning}
use Rattle.gateway.specs.Inputs.{Input}
use Rattle.gateway.specs.Outputs.{output_view, OutputView}
use Rattle.gateway.specs.States.{IsSoundState, State}
use Rattle.gateway.specs.Steps.{Steps}
use Rattle.gateway.specs.declared.output.Output.{Output}

-- one transition: the gateway before a step, its input, its output, and the gateway after
pub record Passage (C : Type 0) : Type 0 where
  pub before : State C
  pub given : Input
  pub said : OutputView
  pub after : State C

pub record IsPassage {C : Type 0} (meaning_of : C → Meaning) (p : Passage C) : Type 0 where
  pub sound : IsSoundState p.before
  pub steps : Steps (meaning_of p.before.caller) p.given p.before p.said p.after

-- transitions in a row, each from where the one before ended
abbrev pub IsTrail : {C : Type 0} → (C → Meaning) → State C → List (Passage C) → State C → Type 0
IsTrail {C} meaning_of old [] new = new ≡ old
IsTrail {C} meaning_of old (p ∷ ps) new = (p.before ≡ old) × IsPassage meaning_of p × IsTrail meaning_of p.after ps new

-- all steps of a run, in order
pub record IsHistory {C : Type 0} (meaning_of : C → Meaning) (inputs : List Input) (outputs : List Output) (old new : State C) (passages : List (Passage C)) : Type 0 where
  pub takes : map (λ p. p.given) passages ≡ inputs
  pub says : map (λ p. p.said) passages ≡ map output_view outputs
  pub trail : IsTrail meaning_of old passages new
