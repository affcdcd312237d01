-- What takes place in a world is a history of the gateway at each end.
use Rattle.std.proofs.Common.{◌≡◌, ◌∷◌, [], List, ap, refl, subst, sym, ◌∙◌}
use Rattle.effects.specs.Taking.{Meaning}
use Rattle.gateway.specs.Histories.{IsPassage, IsTrail, Passage}
use Rattle.gateway.specs.WorldHistories.{passage_at, passages_at, Happening, IsWorldTrail}
use Rattle.gateway.specs.Worlds.{gateway_at, if_at, with_gateway, Stored, TakesEvent, WorldState}
use Rattle.gateway.specs.Steps.{Steps}
use Rattle.gateway.specs.States.{State}
use Rattle.gateway.specs.declared.world.stored.End.{End}
use Rattle.gateway.specs.declared.world.stored.End.TheVariants.{A, B}

gateway_after : {C : Type 0} (end : End) (gateway : State C) (stored : Stored) (w : WorldState C) → gateway_at end (with_gateway end gateway stored w) ≡ gateway
gateway_after {C} A gateway stored w = refl
gateway_after {C} B gateway stored w = refl

pub step_of : {C : Type 0} (meaning_of : C → Meaning) (h : Happening C) → TakesEvent meaning_of h.event h.before h.said h.after → IsPassage meaning_of (passage_at h.event.end h)
step_of {C} meaning_of h takes = record {
  sound = takes.sound;
  steps =
      subst (λ (s : State C). Steps (meaning_of (gateway_at h.event.end h.before).caller) h.event.input (gateway_at h.event.end h.before) h.said s)
      (sym (ap (gateway_at h.event.end) takes.content ∙ gateway_after h.event.end takes.gateway _ h.before))
      (record { trace = takes.trace; traces = takes.traces });
}

-- an event leaves the other end as it was
beside : {C : Type 0} (end at : End) (h : Happening C) (rest : List (Passage C)) (gateway : State C) (stored : Stored) (meaning_of : C → Meaning) (last : State C) → h.after ≡ with_gateway at gateway stored h.before
    → IsPassage meaning_of (passage_at at h) → IsTrail meaning_of (gateway_at end h.after) rest last → IsTrail meaning_of (gateway_at end h.before) (if_at end at (passage_at end h) rest) last
beside {C} A A h rest gateway stored meaning_of last is passage trail = (refl, passage, trail)
beside {C} B B h rest gateway stored meaning_of last is passage trail = (refl, passage, trail)
beside {C} A B h rest gateway stored meaning_of last is passage trail = subst (λ (s : State C). IsTrail meaning_of s rest last) (ap (gateway_at A) is) trail
beside {C} B A h rest gateway stored meaning_of last is passage trail = subst (λ (s : State C). IsTrail meaning_of s rest last) (ap (gateway_at B) is) trail

pub history_at : {C : Type 0} (meaning_of : C → Meaning) (end : End) (happenings : List (Happening C)) (old new : WorldState C) → IsWorldTrail meaning_of old happenings new
    → IsTrail meaning_of (gateway_at end old) (passages_at end happenings) (gateway_at end new)
history_at {C} meaning_of end [] old new trail = ap (gateway_at end) trail
history_at {C} meaning_of end (h ∷ hs) old new trail =
    subst (λ (w : WorldState C). IsTrail meaning_of (gateway_at end w) (if_at end h.event.end (passage_at end h) (passages_at end hs)) (gateway_at end new)) trail.0
    (beside end h.event.end h (passages_at end hs) trail.1.gateway _ meaning_of (gateway_at end new) trail.1.content (step_of meaning_of h trail.1) (history_at meaning_of end hs h.after new trail.2))
