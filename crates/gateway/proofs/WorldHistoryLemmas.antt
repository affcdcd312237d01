-- The steps of a world at one end are a history of its gateway alone.
use Rattle.std.proofs.Common.{◌≡◌, ◌∷◌, [], List, map, refl, sym, ap, ◌∙◌, subst}
use Rattle.effects.specs.Taking.{Meaning}
use Rattle.ike.specs.declared.output.Trace.{Trace}
use Rattle.gateway.specs.Histories.{IsHistory, IsTrail, Passage}
use Rattle.gateway.specs.Inputs.{Event, Input}
use Rattle.gateway.specs.Outputs.{output_view, OutputView}
use Rattle.gateway.specs.States.{IsSoundState, State}
use Rattle.gateway.specs.Steps.{Traces}
use Rattle.gateway.specs.WorldHistories.{passage_at, passages_at, Happening, IsWorldHistory, IsWorldTrail}
use Rattle.gateway.specs.WorldRuns.{inputs_at, outputs_at}
use Rattle.gateway.specs.Worlds.{gateway_at, if_at, with_gateway, Stored, WorldState}
use Rattle.gateway.specs.declared.output.Output.{Output}
use Rattle.gateway.specs.declared.world.stored.End.{End}
use Rattle.gateway.specs.declared.world.stored.End.TheVariants.{A, B}

mapped_front : {X Y : Type 0} (f : X → Y) (end place : End) (x : X) (xs : List X) → map f (if_at end place x xs) ≡ if_at end place (f x) (map f xs)
mapped_front {X} {Y} f A A x xs = refl
mapped_front {X} {Y} f B B x xs = refl
mapped_front {X} {Y} f A B x xs = refl
mapped_front {X} {Y} f B A x xs = refl

-- an event in front of a trail: a step of this end, or none
front_trail : {C : Type 0} (meaning_of : C → Meaning) (end place : End) (input : Input) (s : OutputView) (before after : WorldState C) (gateway : State C) (trace : Trace) (stored : Stored) (ps : List (Passage C)) (new : State C)
    → IsSoundState (gateway_at place before) → Traces (meaning_of (gateway_at place before).caller) input (gateway_at place before) s trace gateway → after ≡ with_gateway place gateway stored before
    → IsTrail meaning_of (gateway_at end after) ps new
    → IsTrail meaning_of (gateway_at end before) (if_at end place (record { before = gateway_at end before; given = input; said = s; after = gateway_at end after }) ps) new
front_trail {C} meaning_of A A input s before after gateway trace stored ps new sound traces same rest =
    let own = subst (λ (g : State C). Traces (meaning_of before.a.caller) input before.a s trace g) (sym (ap (λ (w : WorldState C). w.a) same)) traces in
    (refl, record { sound = sound; steps = record { trace = trace; traces = own } }, rest)
front_trail {C} meaning_of B B input s before after gateway trace stored ps new sound traces same rest =
    let own = subst (λ (g : State C). Traces (meaning_of before.b.caller) input before.b s trace g) (sym (ap (λ (w : WorldState C). w.b) same)) traces in
    (refl, record { sound = sound; steps = record { trace = trace; traces = own } }, rest)
front_trail {C} meaning_of A B input s before after gateway trace stored ps new sound traces same rest = subst (λ (w : WorldState C). IsTrail meaning_of w.a ps new) same rest
front_trail {C} meaning_of B A input s before after gateway trace stored ps new sound traces same rest = subst (λ (w : WorldState C). IsTrail meaning_of w.b ps new) same rest

pub trail_at : {C : Type 0} (meaning_of : C → Meaning) (end : End) (hs : List (Happening C)) (old new : WorldState C) → IsWorldTrail meaning_of old hs new
    → IsTrail meaning_of (gateway_at end old) (passages_at end hs) (gateway_at end new)
trail_at {C} meaning_of end [] old new trail = ap (λ (w : WorldState C). gateway_at end w) trail
trail_at {C} meaning_of end (h ∷ hs) old new trail =
    subst (λ (w : WorldState C). IsTrail meaning_of (gateway_at end w) (passages_at end (h ∷ hs)) (gateway_at end new)) trail.0
    (front_trail meaning_of end h.event.end h.event.input h.said h.before h.after trail.1.gateway trail.1.trace _ (passages_at end hs) (gateway_at end new) trail.1.sound trail.1.traces trail.1.content
    (trail_at meaning_of end hs h.after new trail.2))

takes_at : {C : Type 0} (end : End) (hs : List (Happening C)) → map (λ (p : Passage C). p.given) (passages_at end hs) ≡ inputs_at end (map (λ (h : Happening C). h.event) hs)
takes_at {C} end [] = refl
takes_at {C} end (h ∷ hs) =
    mapped_front (λ (p : Passage C). p.given) end h.event.end (passage_at end h) (passages_at end hs) ∙ ap (λ (is : List Input). if_at end h.event.end h.event.input is) (takes_at end hs)

says_at : {C : Type 0} (end : End) (hs : List (Happening C)) (os : List Output) → map (λ (h : Happening C). h.said) hs ≡ map output_view os
    → map (λ (p : Passage C). p.said) (passages_at end hs) ≡ map output_view (outputs_at end (map (λ (h : Happening C). h.event) hs) os)
says_at {C} end [] os is = refl
says_at {C} end (h ∷ hs) [] is = absurd cc
says_at {C} end (h ∷ hs) (o ∷ os) is =
    let first : h.said ≡ output_view o = cc in
    let others : map (λ (g : Happening C). g.said) hs ≡ map output_view os = cc in
    let rest = says_at end hs os others in
    mapped_front (λ (p : Passage C). p.said) end h.event.end (passage_at end h) (passages_at end hs)
    ∙ (λ i. if_at end h.event.end (first i) (rest i))
    ∙ sym (mapped_front output_view end h.event.end o (outputs_at end (map (λ (g : Happening C). g.event) hs) os))

pub history_at : {C : Type 0} (meaning_of : C → Meaning) (end : End) (es : List Event) (os : List Output) (old new : WorldState C) (hs : List (Happening C)) → IsWorldHistory meaning_of es os old new hs
    → IsHistory meaning_of (inputs_at end es) (outputs_at end es os) (gateway_at end old) (gateway_at end new) (passages_at end hs)
history_at {C} meaning_of end es os old new hs history = record {
  takes = takes_at end hs ∙ ap (λ (xs : List Event). inputs_at end xs) history.takes;
  says = says_at end hs os history.says ∙ ap (λ (xs : List Event). map output_view (outputs_at end xs os)) history.takes;
  trail = trail_at meaning_of end hs old new history.trail;
}
