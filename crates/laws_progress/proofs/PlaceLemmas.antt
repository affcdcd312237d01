-- The steps of one end among those of a world, and the run of its gateway that they are.
use Rattle.std.proofs.Common.{◌≡◌, ◌<◌, ℕ, zero, suc, List, [], ◌∷◌, map, Some, refl, sym, ap, ◌∙◌, subst, arith}
use Rattle.std.specs.List.{slice_get}
use Rattle.effects.specs.Taking.{Meaning}
use Rattle.gateway.specs.Histories.{IsPassage, IsTrail, Passage}
use Rattle.gateway.specs.Inputs.{Event, Input}
use Rattle.gateway.specs.Outputs.{output_view, OutputView}
use Rattle.gateway.specs.Outputs as view
use Rattle.gateway.specs.Runs.{Runs, StepsAs}
use Rattle.gateway.specs.States.{State}
use Rattle.gateway.specs.Steps.{Steps}
use Rattle.gateway.specs.WorldHistories.{passage_at, passages_at, Happening, IsWorldHistory, IsWorldTrail}
use Rattle.gateway.specs.Worlds.{if_at, WorldState}
use Rattle.gateway.specs.declared.output.Output.{Output}
use Rattle.gateway.specs.declared.output.Output.TheVariants as output
use Rattle.gateway.specs.declared.world.stored.End.{End}
use Rattle.gateway.specs.declared.world.stored.End.TheVariants.{A, B}

-- ---- a history is a run

step_of : {C : Type 0} (meaning_of : C → Meaning) (p : Passage C) (i : Input) (o : Output) → p.given ≡ i → p.said ≡ output_view o → IsPassage meaning_of p → StepsAs meaning_of i p.before o p.after
step_of {C} meaning_of p i o given said is = record {
  sound = is.sound;
  steps = subst (λ (s : OutputView). Steps (meaning_of p.before.caller) i p.before s p.after) said
      (subst (λ (x : Input). Steps (meaning_of p.before.caller) x p.before p.said p.after) given is.steps);
}

pub run_of : {C : Type 0} (meaning_of : C → Meaning) (ps : List (Passage C)) (is : List Input) (os : List Output) (old new : State C)
    → map (λ (p : Passage C). p.given) ps ≡ is → map (λ (p : Passage C). p.said) ps ≡ map output_view os → IsTrail meaning_of old ps new → Runs (StepsAs meaning_of) is os old new
run_of {C} meaning_of [] [] [] old new takes says trail = trail
run_of {C} meaning_of [] (i ∷ is) [] old new takes says trail = absurd cc
run_of {C} meaning_of [] (i ∷ is) (o ∷ os) old new takes says trail = absurd cc
run_of {C} meaning_of [] [] (o ∷ os) old new takes says trail = absurd cc
run_of {C} meaning_of (p ∷ ps) [] [] old new takes says trail = absurd cc
run_of {C} meaning_of (p ∷ ps) [] (o ∷ os) old new takes says trail = absurd cc
run_of {C} meaning_of (p ∷ ps) (i ∷ is) [] old new takes says trail = absurd cc
run_of {C} meaning_of (p ∷ ps) (i ∷ is) (o ∷ os) old new takes says trail =
    let given : p.given ≡ i = cc in
    let said : p.said ≡ output_view o = cc in
    let others : map (λ (q : Passage C). q.given) ps ≡ is = cc in
    let outputs : map (λ (q : Passage C). q.said) ps ≡ map output_view os = cc in (
      p.after,
      subst (λ (s : State C). StepsAs meaning_of i s o p.after) trail.0 (step_of meaning_of p i o given said trail.1),
      run_of meaning_of ps is os p.after new others outputs trail.2,
    )

-- ---- a list of steps has a history

abbrev output_of : OutputView → Output
output_of (view.Reply octets closed) = output.Reply octets closed
output_of (view.Repeat octets) = output.Repeat octets
output_of (view.Request serial octets) = output.Request serial octets
output_of (view.Counted serial child closed) = output.Counted serial child closed
output_of (view.Ticked requests closed) = output.Ticked requests closed
output_of view.Done = output.Done
output_of (view.Up child number packet) = output.Up child number (record { ref_ptr = (0, 0); now = packet })
output_of (view.Dummy child number) = output.Dummy child number
output_of (view.Sealed child number octets) = output.Sealed child number octets
output_of (view.Clear packet) = output.Clear (record { ref_ptr = (0, 0); now = packet })
output_of view.Discarded = output.Discarded
output_of (view.Dropped why) = output.Dropped why
output_of (view.Refused why) = output.Refused why

seen : (s : OutputView) → output_view (output_of s) ≡ s
seen (view.Reply octets closed) = refl
seen (view.Repeat octets) = refl
seen (view.Request serial octets) = refl
seen (view.Counted serial child closed) = refl
seen (view.Ticked requests closed) = refl
seen view.Done = refl
seen (view.Up child number packet) = refl
seen (view.Dummy child number) = refl
seen (view.Sealed child number octets) = refl
seen (view.Clear packet) = refl
seen view.Discarded = refl
seen (view.Dropped why) = refl
seen (view.Refused why) = refl

abbrev pub events_of : {C : Type 0} → List (Happening C) → List Event
events_of {C} hs = map (λ (h : Happening C). h.event) hs

abbrev pub outputs_of : {C : Type 0} → List (Happening C) → List Output
outputs_of {C} [] = []
outputs_of {C} (h ∷ hs) = output_of h.said ∷ outputs_of hs

says_so : {C : Type 0} (hs : List (Happening C)) → map (λ (h : Happening C). h.said) hs ≡ map output_view (outputs_of hs)
says_so {C} [] = refl
says_so {C} (h ∷ hs) = let first = seen h.said in let rest = says_so hs in (λ i. sym first i ∷ rest i)

pub history_of : {C : Type 0} (meaning_of : C → Meaning) (hs : List (Happening C)) (old new : WorldState C) → IsWorldTrail meaning_of old hs new
    → IsWorldHistory meaning_of (events_of hs) (outputs_of hs) old new hs
history_of {C} meaning_of hs old new trail = record { takes = refl; says = says_so hs; trail = trail }

-- ---- places

pub data Sides {X : Type 0} (end place : End) (x : X) (xs : List X) : Type 0 where
  own : place ≡ end → if_at end place x xs ≡ x ∷ xs → Sides end place x xs
  others : (place ≡ end → ⊥) → if_at end place x xs ≡ xs → Sides end place x xs

apart : A ≡ B → ⊥
apart is = cc

apart_too : B ≡ A → ⊥
apart_too is = cc

sides : {X : Type 0} (end place : End) (x : X) (xs : List X) → Sides end place x xs
sides {X} A A x xs = own refl refl
sides {X} B B x xs = own refl refl
sides {X} A B x xs = others apart_too refl
sides {X} B A x xs = others apart refl

-- a step of the world at this end, at an earlier place
pub record ComesFrom {C : Type 0} (end : End) (hs : List (Happening C)) (place : ℕ) (p : Passage C) : Type 0 where
  pub earlier : ℕ
  pub before : earlier < place
  pub happening : Happening C
  pub there : slice_get hs earlier ≡ Some happening
  pub end_is : happening.event.end ≡ end
  pub is : p ≡ passage_at end happening

-- an earlier step of this end alone
pub record StandsAt {C : Type 0} (end : End) (hs : List (Happening C)) (at : ℕ) (h : Happening C) : Type 0 where
  pub earlier : ℕ
  pub before : earlier < at
  pub there : slice_get (passages_at end hs) earlier ≡ Some (passage_at end h)

-- where the step of a world stands among those of its end
pub record Located {C : Type 0} (end : End) (hs : List (Happening C)) (place : ℕ) (h : Happening C) : Type 0 where
  pub at : ℕ
  pub there : slice_get (passages_at end hs) at ≡ Some (passage_at end h)
  pub back : (i : ℕ) (p : Passage C) → i < at → slice_get (passages_at end hs) i ≡ Some p → ComesFrom end hs place p
  pub on : (i : ℕ) (k : Happening C) → i < place → slice_get hs i ≡ Some k → k.event.end ≡ end → StandsAt end hs at k

same_happening : {C : Type 0} (g h : Happening C) → Some g ≡ Some h → g ≡ h
same_happening {C} g h is = cc

same_passage : {C : Type 0} (p q : Passage C) → Some p ≡ Some q → p ≡ q
same_passage {C} p q is = cc

further : {C : Type 0} (end : End) (x : Happening C) (hs : List (Happening C)) (place : ℕ) (p : Passage C) → ComesFrom end hs place p → ComesFrom end (x ∷ hs) (suc place) p
further {C} end x hs place p is = record { earlier = suc is.earlier; before = let b = is.before in omega (arith, b); happening = is.happening; there = is.there; end_is = is.end_is; is = is.is }

module _ {C : Type 0} (end : End) (x : Happening C) (hs : List (Happening C)) where
  -- in front of it stands a step of this end
  module _ (own_is : x.event.end ≡ end) (front : passages_at end (x ∷ hs) ≡ passage_at end x ∷ passages_at end hs) where
    here : Located end (x ∷ hs) 0 x
    here = record {
      at = 0;
      there = ap (λ (ps : List (Passage C)). slice_get ps 0) front;
      back = λ i p less _. absurd (omega (arith, less));
      on = λ i k less _ _. absurd (omega (arith, less));
    }

    back_own : (place at : ℕ) → ((i : ℕ) (p : Passage C) → i < at → slice_get (passages_at end hs) i ≡ Some p → ComesFrom end hs place p)
        → (i : ℕ) (p : Passage C) → i < suc at → slice_get (passage_at end x ∷ passages_at end hs) i ≡ Some p → ComesFrom end (x ∷ hs) (suc place) p
    back_own place at back zero p less there =
        record { earlier = 0; before = omega arith; happening = x; there = refl; end_is = own_is; is = sym (same_passage (passage_at end x) p there) }
    back_own place at back (suc i) p less there = further end x hs place p (back i p (omega (arith, less)) there)

    on_own : (place at : ℕ) → ((i : ℕ) (k : Happening C) → i < place → slice_get hs i ≡ Some k → k.event.end ≡ end → StandsAt end hs at k)
        → (i : ℕ) (k : Happening C) → i < suc place → slice_get (x ∷ hs) i ≡ Some k → k.event.end ≡ end → StandsAt end (x ∷ hs) (suc at) k
    on_own place at on zero k less there end_is = record {
      earlier = 0;
      before = omega arith;
      there = ap (λ (ps : List (Passage C)). slice_get ps 0) front ∙ ap (λ (g : Happening C). Some (passage_at end g)) (same_happening x k there);
    }
    on_own place at on (suc i) k less there end_is =
        let rest = on i k (omega (arith, less)) there end_is in
        record { earlier = suc rest.earlier; before = let b = rest.before in omega (arith, b); there = ap (λ (ps : List (Passage C)). slice_get ps (suc rest.earlier)) front ∙ rest.there }

    after_own : (place : ℕ) (h : Happening C) → Located end hs place h → Located end (x ∷ hs) (suc place) h
    after_own place h rest = record {
      at = suc rest.at;
      there = ap (λ (ps : List (Passage C)). slice_get ps (suc rest.at)) front ∙ rest.there;
      back = λ i p less there. back_own place rest.at rest.back i p less (ap (λ (ps : List (Passage C)). slice_get ps i) (sym front) ∙ there);
      on = on_own place rest.at rest.on;
    }

  -- or a step of the other
  module _ (not_own : x.event.end ≡ end → ⊥) (front : passages_at end (x ∷ hs) ≡ passages_at end hs) where
    on_other : (place at : ℕ) → ((i : ℕ) (k : Happening C) → i < place → slice_get hs i ≡ Some k → k.event.end ≡ end → StandsAt end hs at k)
        → (i : ℕ) (k : Happening C) → i < suc place → slice_get (x ∷ hs) i ≡ Some k → k.event.end ≡ end → StandsAt end (x ∷ hs) at k
    on_other place at on zero k less there end_is = absurd (not_own (ap (λ (g : Happening C). g.event.end) (same_happening x k there) ∙ end_is))
    on_other place at on (suc i) k less there end_is =
        let rest = on i k (omega (arith, less)) there end_is in
        record { earlier = rest.earlier; before = rest.before; there = ap (λ (ps : List (Passage C)). slice_get ps rest.earlier) front ∙ rest.there }

    after_other : (place : ℕ) (h : Happening C) → Located end hs place h → Located end (x ∷ hs) (suc place) h
    after_other place h rest = record {
      at = rest.at;
      there = ap (λ (ps : List (Passage C)). slice_get ps rest.at) front ∙ rest.there;
      back = λ i p less there. further end x hs place p (rest.back i p less (ap (λ (ps : List (Passage C)). slice_get ps i) (sym front) ∙ there));
      on = on_other place rest.at rest.on;
    }

  at_front : (h : Happening C) → Sides end x.event.end (passage_at end x) (passages_at end hs) → x ≡ h → h.event.end ≡ end → Located end (x ∷ hs) 0 h
  at_front h (own is front) same end_is = subst (λ (y : Happening C). Located end (x ∷ hs) 0 y) same (here is front)
  at_front h (others not_own front) same end_is = absurd (not_own (ap (λ (g : Happening C). g.event.end) same ∙ end_is))

  behind : (place : ℕ) (h : Happening C) → Sides end x.event.end (passage_at end x) (passages_at end hs) → Located end hs place h → Located end (x ∷ hs) (suc place) h
  behind place h (own is front) rest = after_own is front place h rest
  behind place h (others not_own front) rest = after_other not_own front place h rest

pub located : {C : Type 0} (end : End) (hs : List (Happening C)) (place : ℕ) (h : Happening C) → slice_get hs place ≡ Some h → h.event.end ≡ end → Located end hs place h
located {C} end [] place h there end_is = absurd cc
located {C} end (x ∷ hs) zero h there end_is = at_front end x hs h (sides end x.event.end (passage_at end x) (passages_at end hs)) (same_happening x h there) end_is
located {C} end (x ∷ hs) (suc place) h there end_is = behind end x hs place h (sides end x.event.end (passage_at end x) (passages_at end hs)) (located end hs place h there end_is)
