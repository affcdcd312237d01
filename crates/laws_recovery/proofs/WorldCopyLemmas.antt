-- A copy that arrives in a world is what the first would have been.
use Rattle.std.proofs.Common.{◌≡◌, ◌↔◌, ◌++◌, ◌∷◌, [], ℕ, zero, suc, false, List, Some, refl, subst, sym}
use Rattle.std.proofs.lemmas.Option.{none-some, same_Some}
use Rattle.std.specs.List.{slice_get}
use Rattle.base.specs.Octets.{Octets}
use Rattle.suite.specs.declared.fresh.Fresh.{Fresh}
use Rattle.requests.specs.Incoming.{IsFreshRequest, IsLeftBehind}
use Rattle.association.specs.Phases.{IsEstablished}
use Rattle.association.specs.declared.phase.Association.{Association}
use Rattle.effects.specs.Openings.{OpensWhatItSeals}
use Rattle.effects.specs.Taking.{Meaning}
use Rattle.ike.specs.Moves.{HasSeal}
use Rattle.gateway.specs.Histories.{IsPassage}
use Rattle.gateway.specs.Outputs.{wants_memory, Repeat}
use Rattle.gateway.specs.Requests.{for_ike, OnlySays, TakesEffect}
use Rattle.gateway.specs.WorldHistories.{passage_at, passages_at, Happening, IsWorldTrail}
use Rattle.gateway.specs.Worlds.{other_end, IsFreshlyGiven, TakesEvent, WorldState}
use Rattle.gateway.specs.declared.world.stored.End.{End}
use Rattle.laws_recovery.specs.Copies.{ArrivesAt, IsMatched, WaitsUntil}
use Rattle.laws_recovery.specs.WorldCopies.{CopyArrives, ResponseArrives, WasTaken}
use Rattle.laws_recovery.proofs.CopyLemmas.{comes_again, processed, MomentFacts}
use Rattle.laws_recovery.proofs.MatchingLemmas.{comes_back}
use Rattle.laws_recovery.proofs.ResponseLemmas.{MessageLaws}
use Rattle.laws_recovery.proofs.TakingLemmas.{TakingFacts}
use Rattle.laws_recovery.proofs.WorldLemmas.{history_at, step_of}

-- ---- parts of what took place

pub record Parts {C : Type 0} (meaning_of : C → Meaning) (old : WorldState C) (xs ys : List (Happening C)) (new : WorldState C) : Type 0 where
  pub between : WorldState C
  pub first : IsWorldTrail meaning_of old xs between
  pub rest : IsWorldTrail meaning_of between ys new

pub parts : {C : Type 0} (meaning_of : C → Meaning) (old : WorldState C) (xs ys : List (Happening C)) (new : WorldState C) → IsWorldTrail meaning_of old (xs ++ ys) new → Parts meaning_of old xs ys new
parts {C} meaning_of old [] ys new trail = record { between = old; first = refl; rest = trail }
parts {C} meaning_of old (x ∷ xs) ys new trail =
    let p = parts meaning_of x.after xs ys new trail.2 in
    record { between = p.between; first = (trail.0, trail.1, p.first); rest = p.rest }

-- a step of this end
here : {C : Type 0} (meaning_of : C → Meaning) (end : End) (h : Happening C) → h.event.end ≡ end → TakesEvent meaning_of h.event h.before h.said h.after → IsPassage meaning_of (passage_at end h)
here {C} meaning_of end h same takes = subst (λ (e : End). IsPassage meaning_of (passage_at e h)) same (step_of meaning_of h takes)

-- from one event to before a later one
pub record Between {C : Type 0} (meaning_of : C → Meaning) (first : Happening C) (between : List (Happening C)) (last : Happening C) : Type 0 where
  pub takes_first : TakesEvent meaning_of first.event first.before first.said first.after
  pub trail : IsWorldTrail meaning_of first.after between last.before
  pub takes_last : TakesEvent meaning_of last.event last.before last.said last.after

pub between_of : {C : Type 0} (meaning_of : C → Meaning) (old : WorldState C) (before : List (Happening C)) (first : Happening C) (between : List (Happening C)) (last : Happening C) (after : List (Happening C)) (new : WorldState C)
    → IsWorldTrail meaning_of old (before ++ (first ∷ (between ++ (last ∷ after)))) new → Between meaning_of first between last
between_of {C} meaning_of old before first between last after new trail =
    let p = parts meaning_of old before (first ∷ (between ++ (last ∷ after))) new trail in
    let q = parts meaning_of first.after between (last ∷ after) new p.rest.2 in
    record {
      takes_first = p.rest.1;
      trail = subst (λ (w : WorldState C). IsWorldTrail meaning_of first.after between w) (sym q.rest.0) q.first;
      takes_last = q.rest.1;
    }

module _ {C : Type 0} (moments : MomentFacts) (facts : TakingFacts) (meaning_of : C → Meaning)
    (opens : (one other : C) (fresh : Fresh) → HasSeal fresh → OpensWhatItSeals (meaning_of one).body_of (meaning_of other).plain_of fresh.seal)
    (old new : WorldState C) (happenings : List (Happening C)) (trail : IsWorldTrail meaning_of old happenings new)
    (end : End) (serial other number : ℕ) (b : Association) (arriving : Happening C) (comes : CopyArrives end serial other number b happenings arriving) where
  asked : Between meaning_of comes.asking comes.between comes.repeating
  asked =
      between_of meaning_of old comes.before comes.asking comes.between comes.repeating (comes.since ++ (arriving ∷ comes.after)) new
      (subst (λ (hs : List (Happening C)). IsWorldTrail meaning_of old hs new) comes.all trail)

  arrived : TakesEvent meaning_of arriving.event arriving.before arriving.said arriving.after
  arrived =
      let p = parts meaning_of old comes.before (comes.asking ∷ (comes.between ++ (comes.repeating ∷ (comes.since ++ (arriving ∷ comes.after))))) new
      (subst (λ (hs : List (Happening C)). IsWorldTrail meaning_of old hs new) comes.all trail) in
      let q = parts meaning_of comes.asking.after comes.between (comes.repeating ∷ (comes.since ++ (arriving ∷ comes.after))) new p.rest.2 in
      (between_of meaning_of q.between [] comes.repeating comes.since arriving comes.after new q.rest).takes_last

  until : WaitsUntil meaning_of serial number comes.a comes.waiting.octets (passage_at end comes.asking) (passages_at end comes.between) (passage_at end comes.repeating)
  until = record {
    asks = here meaning_of end comes.asking comes.asks_here asked.takes_first;
    fresh = asked.takes_first.fresh;
    its = comes.its;
    request = comes.request;
    first = comes.first;
    trail = history_at meaning_of end comes.between comes.asking.after comes.repeating.before asked.trail;
    through = comes.through;
    step = here meaning_of end comes.repeating comes.repeats_here asked.takes_last;
    waiting = comes.waiting;
    waits = comes.waits;
    octets_are = refl;
  }

  arrival : IsPassage meaning_of (passage_at (other_end end) arriving)
  arrival = here meaning_of (other_end end) arriving comes.arrives_there arrived

  arrives : ArrivesAt other b comes.waiting.octets (passage_at (other_end end) arriving)
  arrives = record { its = comes.stands; datagram = comes.datagram }

  pub processed_there : IsEstablished b.phase → TakesEffect other number (passage_at (other_end end) arriving) ↔ ((wants_memory arriving.said ≡ false) × IsFreshRequest b.incoming number)
  processed_there established =
      processed moments facts meaning_of opens serial number comes.a comes.waiting.octets (passage_at end comes.asking) (passages_at end comes.between) (passage_at end comes.repeating) until
      other b (passage_at (other_end end) arriving) arrival arrives comes.ends established

  pub answered_again : (reply : Octets) → WasTaken (other_end end) other number reply happenings arriving → ¬ IsLeftBehind b.incoming number → wants_memory arriving.said ≡ false
      → OnlySays (Repeat reply) (passage_at (other_end end) arriving)
  answered_again reply taken near memory =
      let then = between_of meaning_of old taken.before taken.taking taken.since arriving taken.after new (subst (λ (hs : List (Happening C)). IsWorldTrail meaning_of old hs new) taken.all trail) in
      comes_again moments facts meaning_of opens serial number comes.a comes.waiting.octets (passage_at end comes.asking) (passages_at end comes.between) (passage_at end comes.repeating) until
      other b reply (passage_at (other_end end) taken.taking) (passages_at (other_end end) taken.since) (passage_at (other_end end) arriving)
      (here meaning_of (other_end end) taken.taking taken.takes_here then.takes_first) taken.takes taken.answers
      (history_at meaning_of (other_end end) taken.since taken.taking.after arriving.before then.trail)
      arrival arrives comes.ends near memory

-- ---- the response

event_at : {C : Type 0} (meaning_of : C → Meaning) (hs : List (Happening C)) (old new : WorldState C) (place : ℕ) (h : Happening C) → IsWorldTrail meaning_of old hs new → slice_get hs place ≡ Some h
    → TakesEvent meaning_of h.event h.before h.said h.after
event_at {C} meaning_of [] old new place h trail there = absurd (none-some h there)
event_at {C} meaning_of (x ∷ hs) old new zero h trail there = subst (λ (y : Happening C). TakesEvent meaning_of y.event y.before y.said y.after) (same_Some x h there) trail.1
event_at {C} meaning_of (x ∷ hs) old new (suc place) h trail there = event_at meaning_of hs x.after new place h trail.2 there

fresh_there : {C : Type 0} (meaning_of : C → Meaning) (end : End) (h : Happening C) → h.event.end ≡ end → TakesEvent meaning_of h.event h.before h.said h.after → IsFreshlyGiven (for_ike (passage_at end h).given)
fresh_there {C} meaning_of end h same takes = takes.fresh

module _ {C : Type 0} (moments : MomentFacts) (facts : TakingFacts) (laws : MessageLaws) (meaning_of : C → Meaning)
    (opens : (one other : C) (fresh : Fresh) → HasSeal fresh → OpensWhatItSeals (meaning_of one).body_of (meaning_of other).plain_of fresh.seal)
    (plain : (one other : C) → (meaning_of one).plain_of ≡ (meaning_of other).plain_of)
    (old new : WorldState C) (happenings : List (Happening C)) (trail : IsWorldTrail meaning_of old happenings new)
    (end : End) (serial number : ℕ) (arriving : Happening C) (comes : ResponseArrives end serial number happenings arriving) where
  awaited : Between meaning_of comes.asking comes.between arriving
  awaited = between_of meaning_of old comes.before comes.asking comes.between arriving comes.after new (subst (λ (hs : List (Happening C)). IsWorldTrail meaning_of old hs new) comes.all trail)

  until_then : WaitsUntil meaning_of serial number comes.a comes.waiting.octets (passage_at end comes.asking) (passages_at end comes.between) (passage_at end arriving)
  until_then = record {
    asks = here meaning_of end comes.asking comes.asks_here awaited.takes_first;
    fresh = awaited.takes_first.fresh;
    its = comes.its;
    request = comes.request;
    first = comes.first;
    trail = history_at meaning_of end comes.between comes.asking.after arriving.before awaited.trail;
    through = comes.through;
    step = here meaning_of end arriving comes.arrives_here awaited.takes_last;
    waiting = comes.waiting;
    waits = comes.waits;
    octets_are = refl;
  }

  pub matched_there : wants_memory arriving.said ≡ false → IsMatched serial number (passage_at end arriving)
  matched_there memory =
      let took = event_at meaning_of happenings old new comes.place comes.taking trail comes.among in
      comes_back moments facts laws meaning_of opens plain serial number comes.a comes.waiting.octets (passage_at end comes.asking) (passages_at end comes.between) (passage_at end arriving) until_then
      comes.other comes.b comes.d comes.reply (passage_at (other_end end) comes.taking) (here meaning_of (other_end end) comes.taking comes.takes_there took)
      (fresh_there meaning_of (other_end end) comes.taking comes.takes_there took)
      (record { its = comes.stands; datagram = comes.taken }) comes.ends comes.established comes.answers (record { its = comes.held; datagram = comes.datagram }) comes.ends_then memory
