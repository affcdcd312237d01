-- A list of inputs has one result, whatever strangers send between them.
use Rattle.std.proofs.Common.{◌∷◌, ℕ, [], List, Bool, true, false, take}
use Rattle.std.specs.List.{AllByRecursion}
use Rattle.effects.specs.Taking.{Meaning}
use Rattle.gateway.proofs.AlikeLemmas.{all_taken, rightly_given}
use Rattle.gateway.specs.Beside.{renaming_after, strange_after, AreAnsweredBeside, AreGivenBeside, HasOneResultBeside, HoldsBeside, IsGivenBeside}
use Rattle.gateway.specs.Carrying.{EachPairIsOfAnEstablished}
use Rattle.gateway.specs.Histories.{IsTrail, Passage}
use Rattle.gateway.specs.Inputs.{Input}
use Rattle.gateway.specs.LeavingOut.{IsAny, IsRightlyGiven}
use Rattle.gateway.specs.Lengths.{AreGiven, IsGiven}
use Rattle.gateway.specs.States.{State}

-- what is known of two runs
abbrev pub BesideLaw : Type 0 → Type 0
BesideLaw C = (meaning_of : C → Meaning) (marks : List Bool) (renaming : ℕ → ℕ) (strange : ℕ → Bool) (passages others : List (Passage C)) (old new other after : State C)
    → IsTrail meaning_of old passages new → IsTrail meaning_of other others after → HoldsBeside renaming strange old other → EachPairIsOfAnEstablished old → EachPairIsOfAnEstablished other
    → AreGivenBeside meaning_of (IsRightlyGiven meaning_of) marks renaming strange passages others → AreAnsweredBeside marks renaming strange passages others new after

one_given : {C : Type 0} (meaning_of : C → Meaning) (r : ℕ → ℕ) (strange : ℕ → Bool) (p q : Passage C) → IsGivenBeside IsAny r strange p q → IsRightlyGiven meaning_of p → IsGivenBeside (IsRightlyGiven meaning_of) r strange p q
one_given {C} meaning_of r strange p q given is = record { given = given.given; left = given.left; apart = given.apart; is = is; memory = given.memory; memory_too = given.memory_too }

each_given : {C : Type 0} (meaning_of : C → Meaning) (marks : List Bool) (r : ℕ → ℕ) (strange : ℕ → Bool) (passages others : List (Passage C))
    → AreGivenBeside meaning_of IsAny marks r strange passages others → AllByRecursion (IsRightlyGiven meaning_of) passages → AreGivenBeside meaning_of (IsRightlyGiven meaning_of) marks r strange passages others
each_given {C} meaning_of [] r strange [] [] given all = given
each_given {C} meaning_of (b ∷ marks) r strange [] [] given all = given
each_given {C} meaning_of [] r strange [] (q ∷ others) given all = absurd given
each_given {C} meaning_of (b ∷ marks) r strange [] (q ∷ others) given all = absurd given
each_given {C} meaning_of [] r strange (p ∷ passages) [] given all = absurd given
each_given {C} meaning_of [] r strange (p ∷ passages) (q ∷ others) given all = (one_given meaning_of r strange p q given.0 all.0, each_given meaning_of [] r strange passages others given.1 all.1)
each_given {C} meaning_of (true ∷ marks) r strange (p ∷ passages) others given all = (given.0, each_given meaning_of marks (renaming_after r p) (strange_after strange p) passages others given.1 all.1)
each_given {C} meaning_of (false ∷ marks) r strange (p ∷ passages) [] given all = absurd given
each_given {C} meaning_of (false ∷ marks) r strange (p ∷ passages) (q ∷ others) given all = (one_given meaning_of r strange p q given.0 all.0, each_given meaning_of marks r strange passages others given.1 all.1)

pub one_result_beside : {C : Type 0} (meaning_of : C → Meaning) (inputs : List Input) (old : State C) → BesideLaw C → AreGiven (meaning_of old.caller) inputs → HasOneResultBeside meaning_of inputs old
one_result_beside {C} meaning_of inputs old law given = record {
  each = λ count outputs new passages history marks r strange others other after trail holds standing also are.
      law meaning_of marks r strange passages others old new other after history.trail trail holds standing also
      (each_given meaning_of marks r strange passages others are
      (rightly_given meaning_of passages (take count inputs) old new history.trail history.takes (all_taken (IsGiven (meaning_of old.caller)) count inputs given)));
}
