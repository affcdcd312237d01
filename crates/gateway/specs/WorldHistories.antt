-- Events at two ends as the list of their steps (an execution).
use Rattle.std.specs.Prelude.{◌≡◌, List, [], ◌∷◌, map}
use Rattle.effects.specs.Taking.{Meaning}
use Rattle.gateway.specs.Histories.{Passage}
use Rattle.gateway.specs.Inputs.{Event}
use Rattle.gateway.specs.Outputs.{output_view, OutputView}
use Rattle.gateway.specs.Worlds.{gateway_at, if_at, TakesEvent, WorldState}
use Rattle.gateway.specs.declared.output.Output.{Output}
use Rattle.gateway.specs.declared.world.stored.End.{End}

-- one transition: the world before an event, the event, its output, and the world after
pub record Happening (C : Type 0) : Type 0 where
  pub before : WorldState C
  pub event : Event
  pub said : OutputView
  pub after : WorldState C

-- transitions in a row, each from where the one before ended
abbrev pub IsWorldTrail : {C : Type 0} → (C → Meaning) → WorldState C → List (Happening C) → WorldState C → Type 0
IsWorldTrail {C} meaning_of old [] new = new ≡ old
IsWorldTrail {C} meaning_of old (h ∷ hs) new = (h.before ≡ old) × TakesEvent meaning_of h.event h.before h.said h.after × IsWorldTrail meaning_of h.after hs new

-- all steps of a run of a world, in order
pub record IsWorldHistory {C : Type 0} (meaning_of : C → Meaning) (events : List Event) (outputs : List Output) (old new : WorldState C) (happenings : List (Happening C)) : Type 0 where
  pub takes : map (λ h. h.event) happenings ≡ events
  pub says : map (λ h. h.said) happenings ≡ map output_view outputs
  pub trail : IsWorldTrail meaning_of old happenings new

-- a step as the gateway of this end sees it
abbrev pub passage_at : {C : Type 0} → End → Happening C → Passage C
passage_at {C} end h = record { before = gateway_at end h.before; given = h.event.input; said = h.said; after = gateway_at end h.after }

-- the steps of this end, in their order
abbrev pub passages_at : {C : Type 0} → End → List (Happening C) → List (Passage C)
passages_at {C} end [] = []
passages_at {C} end (h ∷ hs) = if_at end h.event.end (passage_at end h) (passages_at end hs)
