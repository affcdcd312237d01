-- Runs over lists: one more step at the end, and runs in a row.
use Rattle.std.proofs.Common.{◌≡◌, ◌+◌, ◌<◌, ◌++◌, ◌∷◌, [], ℕ, List, length, map, take, drop, get_or, refl, sym, ap, ◌∙◌, subst, append_assoc, arith}
use Rattle.std.specs.Prelude.{flat_map}
use Rattle.std.proofs.lemmas.List.{drop-map, get_or-map, length-map, map-append, take-map, take_more}
use Rattle.effects.specs.Taking.{Meaning}
use Rattle.gateway.specs.Histories.{IsHistory, IsTrail, Passage}
use Rattle.gateway.specs.Inputs.{Input}
use Rattle.gateway.specs.Outputs.{output_view}
use Rattle.gateway.specs.Runs.{CallsAs, Runs, StepsAs}
use Rattle.gateway.specs.States.{State}
use Rattle.gateway.specs.declared.output.Output.{Output}

pub run_more : {I O S : Type 0} (step : I → S → O → S → Type 0) (old : S) (is : List I) (os : List O) (mid : S) (i : I) (o : O) (new : S)
    → Runs step is os old mid → step i mid o new → Runs step (is ++ i ∷ []) (os ++ o ∷ []) old new
run_more {I} {O} {S} step old [] [] mid i o new run taken = (new, subst (λ (s : S). step i s o new) run taken, refl)
run_more {I} {O} {S} step old (x ∷ is) (y ∷ os) mid i o new run taken = (run.0, run.1, run_more step run.0 is os mid i o new run.2 taken)
run_more {I} {O} {S} step old [] (y ∷ os) mid i o new run taken = absurd run
run_more {I} {O} {S} step old (x ∷ is) [] mid i o new run taken = absurd run

-- the list so far has one more input
pub take_next : {X : Type 0} (xs : List X) (k : ℕ) (x : X) → k < length xs → x ≡ get_or xs k x → take (k + 1) xs ≡ take k xs ++ x ∷ []
take_next {X} xs k x h is = take_more xs k x h ∙ ap (λ (y : X). take k xs ++ y ∷ []) (sym is)

-- the same of a list in its image; whatever an index past its end would give
pub next_in_image : {X Y : Type 0} (f : X → Y) (xs : List X) (k : ℕ) (d : X) → k < length xs → f (get_or xs k d) ≡ get_or (map f xs) k (f (get_or xs k d))
next_in_image {X} {Y} f xs k d h = sym (get_or-map f xs k d (f (get_or xs k d)) h)

pub within_image : {X Y : Type 0} (f : X → Y) (xs : List X) (k : ℕ) → k < length xs → k < length (map f xs)
within_image {X} {Y} f xs k h = omega (arith, length-map xs f)

pub take_next_image : {X Y : Type 0} (f : X → Y) (xs : List X) (k : ℕ) (d : X) → k < length xs → take (k + 1) (map f xs) ≡ take k (map f xs) ++ f (get_or xs k d) ∷ []
take_next_image {X} {Y} f xs k d h = take_next (map f xs) k (f (get_or xs k d)) (within_image f xs k h) (next_in_image f xs k d h)

-- a part of a list in its image
pub part_of_image : {X Y : Type 0} (f : X → Y) (xs : List X) (at size : ℕ) → map f (take size (drop at xs)) ≡ take size (drop at (map f xs))
part_of_image {X} {Y} f xs at size = sym (take-map f size (drop at xs)) ∙ ap (λ (ys : List Y). take size ys) (sym (drop-map f at xs))

-- one more output, behind those so far
pub pushed_after : {X : Type 0} (start front mid after : List X) (x : X) → after ≡ mid ++ x ∷ [] → mid ≡ start ++ front → after ≡ start ++ (front ++ x ∷ [])
pushed_after {X} start front mid after x is before = is ∙ ap (λ (xs : List X). xs ++ x ∷ []) before ∙ append_assoc start front (x ∷ [])

-- a run and the next one
pub runs_joined : {I O S : Type 0} (step : I → S → O → S → Type 0) (is : List I) (os : List O) (js : List I) (ps : List O) (old mid new : S)
    → Runs step is os old mid → Runs step js ps mid new → Runs step (is ++ js) (os ++ ps) old new
runs_joined {I} {O} {S} step [] [] js ps old mid new first second = subst (λ (s : S). Runs step js ps s new) first second
runs_joined {I} {O} {S} step (i ∷ is) (o ∷ os) js ps old mid new first second = (first.0, first.1, runs_joined step is os js ps first.0 mid new first.2 second)
runs_joined {I} {O} {S} step [] (o ∷ os) js ps old mid new first second = absurd first
runs_joined {I} {O} {S} step (i ∷ is) [] js ps old mid new first second = absurd first

-- runs over many lists
pub calls_joined : {C : Type 0} (meaning_of : C → Meaning) (lists : List (List Input)) (outputs : List (List Output)) (old new : State C)
    → Runs (CallsAs meaning_of) lists outputs old new → Runs (StepsAs meaning_of) (flat_map (λ is. is) lists) (flat_map (λ os. os) outputs) old new
calls_joined {C} meaning_of [] [] old new calls = calls
calls_joined {C} meaning_of (is ∷ lists) (os ∷ outputs) old new calls =
    runs_joined (StepsAs meaning_of) is os (flat_map (λ is. is) lists) (flat_map (λ os. os) outputs) old calls.0 new calls.1 (calls_joined meaning_of lists outputs calls.0 new calls.2)
calls_joined {C} meaning_of [] (os ∷ outputs) old new calls = absurd calls
calls_joined {C} meaning_of (is ∷ lists) [] old new calls = absurd calls

-- and their histories
trails_joined : {C : Type 0} (meaning_of : C → Meaning) (ps qs : List (Passage C)) (old mid new : State C)
    → IsTrail meaning_of old ps mid → IsTrail meaning_of mid qs new → IsTrail meaning_of old (ps ++ qs) new
trails_joined {C} meaning_of [] qs old mid new first second = subst (λ (s : State C). IsTrail meaning_of s qs new) first second
trails_joined {C} meaning_of (p ∷ ps) qs old mid new first second = (first.0, first.1, trails_joined meaning_of ps qs p.after mid new first.2 second)

both_mapped : {X Y : Type 0} (f : X → Y) (xs ys : List X) (us vs : List Y) → map f xs ≡ us → map f ys ≡ vs → map f (xs ++ ys) ≡ us ++ vs
both_mapped {X} {Y} f xs ys us vs first second = map-append f xs ys ∙ ap (λ (zs : List Y). zs ++ map f ys) first ∙ ap (λ (zs : List Y). us ++ zs) second

pub histories_joined : {C : Type 0} (meaning_of : C → Meaning) (is js : List Input) (os ps : List Output) (old mid new : State C) (earlier later : List (Passage C))
    → IsHistory meaning_of is os old mid earlier → IsHistory meaning_of js ps mid new later → IsHistory meaning_of (is ++ js) (os ++ ps) old new (earlier ++ later)
histories_joined {C} meaning_of is js os ps old mid new earlier later first second = record {
  takes = both_mapped (λ (p : Passage C). p.given) earlier later is js first.takes second.takes;
  says = both_mapped (λ (p : Passage C). p.said) earlier later (map output_view os) (map output_view ps) first.says second.says ∙ sym (map-append output_view os ps);
  trail = trails_joined meaning_of earlier later old mid new first.trail second.trail;
}
