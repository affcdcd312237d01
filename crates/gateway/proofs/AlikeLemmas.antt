-- A list of inputs has one result, whatever without effect stands between them.
use Rattle.std.proofs.Common.{◌≡◌, ◌∷◌, ℕ, zero, suc, [], List, Bool, true, false, ap, map, refl, subst, sym, take, ◌∙◌}
use Rattle.std.specs.List.{AllByRecursion}
use Rattle.effects.specs.Taking.{Meaning}
use Rattle.gateway.specs.Contents.{state_content}
use Rattle.gateway.specs.Histories.{IsPassage, IsTrail, Passage}
use Rattle.gateway.specs.Inputs.{Input}
use Rattle.gateway.specs.LeavingOut.{without, AreAnsweredAlike, AreGivenAlike, EachLeftOut, HasOneResultWithout, IsRightlyGiven, IsWithoutEffect}
use Rattle.gateway.specs.Lengths.{AreGiven, IsGiven}
use Rattle.gateway.specs.States.{State}

-- what is known of two runs
abbrev pub LeavingLaw : Type 0 → Type 0
LeavingLaw C = (meaning_of : C → Meaning) (marks also : List Bool) (passages others : List (Passage C)) (old other new after : State C)
    → AreGivenAlike meaning_of (IsRightlyGiven meaning_of) marks also passages others old other new after
    → state_content other ≡ state_content old
    → EachLeftOut (IsWithoutEffect meaning_of) marks passages
    → EachLeftOut (IsWithoutEffect meaning_of) also others
    → AreAnsweredAlike marks also passages others × (state_content after ≡ state_content new)

-- ---- lists

same_head : {X : Type 0} (x y : X) (xs ys : List X) → x ∷ xs ≡ y ∷ ys → x ≡ y
same_head {X} x y xs ys same = cc

same_tail : {X : Type 0} (x y : X) (xs ys : List X) → x ∷ xs ≡ y ∷ ys → xs ≡ ys
same_tail {X} x y xs ys same = cc

all_without : {X : Type 0} (P : X → Type 0) (marks : List Bool) (xs : List X) → AllByRecursion P xs → AllByRecursion P (without marks xs)
all_without {X} P [] xs all = all
all_without {X} P (mark ∷ marks) [] all = all
all_without {X} P (true ∷ marks) (x ∷ xs) all = all_without P marks xs all.1
all_without {X} P (false ∷ marks) (x ∷ xs) all = (all.0, all_without P marks xs all.1)

pub all_taken : {X : Type 0} (P : X → Type 0) (count : ℕ) (xs : List X) → AllByRecursion P xs → AllByRecursion P (take count xs)
all_taken {X} P zero xs all = record {}
all_taken {X} P (suc count) [] all = record {}
all_taken {X} P (suc count) (x ∷ xs) all = (all.0, all_taken P count xs all.1)

-- ---- a run

caller_stays : {C : Type 0} (meaning_of : C → Meaning) (p : Passage C) → IsPassage meaning_of p → p.after.caller ≡ p.before.caller
caller_stays {C} meaning_of p is = ap (λ (s : State C). s.caller) is.steps.traces.kept

pub rightly_given : {C : Type 0} (meaning_of : C → Meaning) (passages : List (Passage C)) (inputs : List Input) (old new : State C) → IsTrail meaning_of old passages new → map (λ p. p.given) passages ≡ inputs
    → AreGiven (meaning_of old.caller) inputs → AllByRecursion (IsRightlyGiven meaning_of) passages
rightly_given {C} meaning_of [] inputs old new trail takes all = record {}
rightly_given {C} meaning_of (p ∷ ps) inputs old new trail takes all =
    let here : AreGiven (meaning_of old.caller) (p.given ∷ map (λ q. q.given) ps) = subst (λ (is : List Input). AreGiven (meaning_of old.caller) is) (sym takes) all in
    let begins : p.before.caller ≡ old.caller = ap (λ (s : State C). s.caller) trail.0 in
    let goes : p.after.caller ≡ old.caller = caller_stays meaning_of p trail.1 ∙ begins in (
      subst (λ (c : C). IsGiven (meaning_of c) p.given) (sym begins) here.0,
      rightly_given meaning_of ps (map (λ q. q.given) ps) p.after new trail.2 refl (subst (λ (c : C). AreGiven (meaning_of c) (map (λ q. q.given) ps)) (sym goes) here.1),
    )

pub one_result : {C : Type 0} (meaning_of : C → Meaning) (inputs : List Input) (old : State C) → LeavingLaw C → AreGiven (meaning_of old.caller) inputs → HasOneResultWithout meaning_of inputs old
one_result {C} meaning_of inputs old law given = record {
  each = λ count outputs new passages history marks also others other after are same out also_out.
      law meaning_of also marks others passages other old after new
      (record {
        first = are.first;
        second = are.second;
        inputs = are.inputs;
        each = all_without (IsRightlyGiven meaning_of) marks passages (rightly_given meaning_of passages (take count inputs) old new history.trail history.takes (all_taken (IsGiven (meaning_of old.caller)) count inputs given));
        memory = are.memory;
        memory_too = are.memory_too;
      })
      same also_out out;
}
