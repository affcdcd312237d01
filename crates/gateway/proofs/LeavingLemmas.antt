-- Two runs that are given the same but for what has no effect on a part of what they hold.
use Rattle.std.proofs.Common.{◌≡◌, ◌∷◌, ℕ, [], List, Bool, true, false, Some, ap, refl, sym, subst, suc, zero, ◌∙◌}
use Rattle.std.proofs.lemmas.Option.{none-some, same_Some}
use Rattle.std.specs.List.{AllByRecursion, slice_get}
use Rattle.effects.specs.Taking.{Meaning}
use Rattle.gateway.specs.Histories.{IsPassage, IsTrail, Passage}
use Rattle.gateway.specs.Inputs.{Input}
use Rattle.gateway.specs.States.{State}
use Rattle.gateway.specs.LeavingOut.{inputs_of, outputs_of, without, AreAnsweredAlike, AreGivenAlike, EachLeftOut, HasMemory}

-- ---- lists

same_head : {X : Type 0} (x y : X) (xs ys : List X) → x ∷ xs ≡ y ∷ ys → x ≡ y
same_head {X} x y xs ys same = cc

same_tail : {X : Type 0} (x y : X) (xs ys : List X) → x ∷ xs ≡ y ∷ ys → xs ≡ ys
same_tail {X} x y xs ys same = cc

none_there : {X R : Type 0} (x : X) (xs : List X) → [] ≡ x ∷ xs → R
none_there {X} {R} x xs same = absurd cc

none_here : {X R : Type 0} (x : X) (xs : List X) → x ∷ xs ≡ [] → R
none_here {X} {R} x xs same = absurd cc

same_both : {X : Type 0} (x y : X) (xs ys : List X) → x ≡ y → xs ≡ ys → x ∷ xs ≡ y ∷ ys
same_both {X} x y xs ys one rest = cc

-- ---- both runs at once

-- `view` is the part of a state. A step that both take does the same to it, and answers the same.
module _ {C V : Type 0} (meaning_of : C → Meaning) (view : State C → V) (Is : Passage C → Type 0)
    (step : (p q : Passage C) → IsPassage meaning_of p → IsPassage meaning_of q → view q.before ≡ view p.before → q.given ≡ p.given → Is q → HasMemory p → HasMemory q → (q.said ≡ p.said) × (view q.after ≡ view p.after)) where
  abbrev Stays : Passage C → Type 0
  Stays p = view p.after ≡ view p.before

  -- nothing of the second run stays
  all_out : (also : List Bool) (qs : List (Passage C)) (other after : State C) → IsTrail meaning_of other qs after → [] ≡ without also (inputs_of qs) → EachLeftOut Stays also qs
      → (without also (outputs_of qs) ≡ []) × (view after ≡ view other)
  all_out [] [] other after trail inputs out = (refl, ap view trail)
  all_out [] (q ∷ qs) other after trail inputs out = none_there q.given (inputs_of qs) inputs
  all_out (mark ∷ also) [] other after trail inputs out = (refl, ap view trail)
  all_out (true ∷ also) (q ∷ qs) other after trail inputs out =
      let rest = all_out also qs q.after after trail.2 inputs (λ place x marked there. out (suc place) x marked there) in
      (rest.0, rest.1 ∙ out zero q refl refl ∙ ap view trail.0)
  all_out (false ∷ also) (q ∷ qs) other after trail inputs out = none_there q.given (without also (inputs_of qs)) inputs

  -- the first of the second run that stays, and the run behind it
  record Next (x : Input) (xs : List Input) (also : List Bool) (qs : List (Passage C)) (other after : State C) : Type 0 where
    q : Passage C
    marks : List Bool
    rest : List (Passage C)
    is : IsPassage meaning_of q
    same : view q.before ≡ view other
    trail : IsTrail meaning_of q.after rest after
    given : x ≡ q.given
    inputs : xs ≡ without marks (inputs_of rest)
    outputs : without also (outputs_of qs) ≡ q.said ∷ without marks (outputs_of rest)
    such : Is q
    such_rest : AllByRecursion Is (without marks rest)
    memory : HasMemory q
    memory_rest : AllByRecursion HasMemory (without marks rest)
    out : EachLeftOut Stays marks rest

  next : (also : List Bool) (qs : List (Passage C)) (other after : State C) (x : Input) (xs : List Input) → IsTrail meaning_of other qs after → x ∷ xs ≡ without also (inputs_of qs)
      → AllByRecursion Is (without also qs) → AllByRecursion HasMemory (without also qs) → EachLeftOut Stays also qs → Next x xs also qs other after
  next [] [] other after x xs trail inputs such memory out = none_here x xs inputs
  next [] (q ∷ qs) other after x xs trail inputs such memory out = record {
    q = q;
    marks = [];
    rest = qs;
    is = trail.1;
    same = ap view trail.0;
    trail = trail.2;
    given = same_head x q.given xs (inputs_of qs) inputs;
    inputs = same_tail x q.given xs (inputs_of qs) inputs;
    outputs = refl;
    such = such.0;
    such_rest = such.1;
    memory = memory.0;
    memory_rest = memory.1;
    out = λ place p marked there. absurd (none-some true marked);
  }
  next (mark ∷ also) [] other after x xs trail inputs such memory out = none_here x xs inputs
  next (true ∷ also) (q ∷ qs) other after x xs trail inputs such memory out =
      let n = next also qs q.after after x xs trail.2 inputs such memory (λ place p marked there. out (suc place) p marked there) in
      record {
        q = n.q;
        marks = n.marks;
        rest = n.rest;
        is = n.is;
        same = n.same ∙ out zero q refl refl ∙ ap view trail.0;
        trail = n.trail;
        given = n.given;
        inputs = n.inputs;
        outputs = n.outputs;
        such = n.such;
        such_rest = n.such_rest;
        memory = n.memory;
        memory_rest = n.memory_rest;
        out = n.out;
      }
  next (false ∷ also) (q ∷ qs) other after x xs trail inputs such memory out = record {
    q = q;
    marks = also;
    rest = qs;
    is = trail.1;
    same = ap view trail.0;
    trail = trail.2;
    given = same_head x q.given xs (without also (inputs_of qs)) inputs;
    inputs = same_tail x q.given xs (without also (inputs_of qs)) inputs;
    outputs = refl;
    such = such.0;
    such_rest = such.1;
    memory = memory.0;
    memory_rest = memory.1;
    out = λ place p marked there. out (suc place) p marked there;
  }

  abbrev GoOn : List Bool → List (Passage C) → Type 0
  GoOn marks ps = (also : List Bool) (qs : List (Passage C)) (old other new after : State C) → IsTrail meaning_of old ps new → IsTrail meaning_of other qs after → without marks (inputs_of ps) ≡ without also (inputs_of qs) → view other ≡ view old
      → AllByRecursion Is (without also qs) → AllByRecursion HasMemory (without marks ps) → AllByRecursion HasMemory (without also qs) → EachLeftOut Stays marks ps → EachLeftOut Stays also qs
      → (without also (outputs_of qs) ≡ without marks (outputs_of ps)) × (view after ≡ view new)

  -- a step that stays, and then the rest
  stays_then : (p : Passage C) (marks : List Bool) (ps : List (Passage C)) → GoOn marks ps → (also : List Bool) (qs : List (Passage C)) (old other new after : State C) → (p.before ≡ old) × IsPassage meaning_of p × IsTrail meaning_of p.after ps new
      → IsTrail meaning_of other qs after → p.given ∷ without marks (inputs_of ps) ≡ without also (inputs_of qs) → view other ≡ view old
      → AllByRecursion Is (without also qs) → HasMemory p → AllByRecursion HasMemory (without marks ps) → AllByRecursion HasMemory (without also qs) → EachLeftOut Stays marks ps → EachLeftOut Stays also qs
      → (without also (outputs_of qs) ≡ p.said ∷ without marks (outputs_of ps)) × (view after ≡ view new)
  stays_then p marks ps more also qs old other new after trail second inputs same such memory memories too out also_out =
      let n = next also qs other after p.given (without marks (inputs_of ps)) second inputs such too also_out in
      let one = step p n.q trail.1 n.is (n.same ∙ same ∙ sym (ap view trail.0)) (sym n.given) n.such memory n.memory in
      let rest = more n.marks n.rest p.after n.q.after new after trail.2 n.trail n.inputs one.1 n.such_rest memories n.memory_rest out n.out in
      (n.outputs ∙ same_both n.q.said p.said (without n.marks (outputs_of n.rest)) (without marks (outputs_of ps)) one.0 rest.0, rest.1)

  -- nothing of the first run is left
  ends : (also : List Bool) (qs : List (Passage C)) (old other new after : State C) → new ≡ old → IsTrail meaning_of other qs after → [] ≡ without also (inputs_of qs) → view other ≡ view old → EachLeftOut Stays also qs
      → (without also (outputs_of qs) ≡ []) × (view after ≡ view new)
  ends also qs old other new after is second inputs same also_out =
      let rest = all_out also qs other after second inputs also_out in
      (rest.0, rest.1 ∙ same ∙ sym (ap view is))

  go_on : (marks : List Bool) (ps : List (Passage C)) → GoOn marks ps
  go_on [] [] also qs old other new after trail second inputs same such memory too out also_out = ends also qs old other new after trail second inputs same also_out
  go_on [] (p ∷ ps) also qs old other new after trail second inputs same such memory too out also_out =
      stays_then p [] ps (go_on [] ps) also qs old other new after trail second inputs same such memory.0 memory.1 too (λ place x marked there. absurd (none-some true marked)) also_out
  go_on (mark ∷ marks) [] also qs old other new after trail second inputs same such memory too out also_out = ends also qs old other new after trail second inputs same also_out
  go_on (true ∷ marks) (p ∷ ps) also qs old other new after trail second inputs same such memory too out also_out =
      go_on marks ps also qs p.after other new after trail.2 second inputs (same ∙ sym (ap view trail.0) ∙ sym (out zero p refl refl)) such memory too (λ place x marked there. out (suc place) x marked there) also_out
  go_on (false ∷ marks) (p ∷ ps) also qs old other new after trail second inputs same such memory too out also_out =
      stays_then p marks ps (go_on marks ps) also qs old other new after trail second inputs same such memory.0 memory.1 too (λ place x marked there. out (suc place) x marked there) also_out

  pub answered_alike : (marks also : List Bool) (passages others : List (Passage C)) (old other new after : State C) → AreGivenAlike meaning_of Is marks also passages others old other new after → view other ≡ view old
      → EachLeftOut Stays marks passages → EachLeftOut Stays also others → AreAnsweredAlike marks also passages others × (view after ≡ view new)
  answered_alike marks also passages others old other new after are same out also_out =
      go_on marks passages also others old other new after are.first are.second are.inputs same are.each are.memory are.memory_too out also_out

-- each step of a run is one of a gateway
pub each_is : {C : Type 0} (meaning_of : C → Meaning) (ps : List (Passage C)) (old new : State C) → IsTrail meaning_of old ps new → (place : ℕ) (p : Passage C) → slice_get ps place ≡ Some p → IsPassage meaning_of p
each_is {C} meaning_of [] old new trail place p there = absurd (none-some p there)
each_is {C} meaning_of (x ∷ xs) old new trail zero p there = subst (λ (y : Passage C). IsPassage meaning_of y) (same_Some x p there) trail.1
each_is {C} meaning_of (x ∷ xs) old new trail (suc place) p there = each_is meaning_of xs x.after new trail.2 place p there
