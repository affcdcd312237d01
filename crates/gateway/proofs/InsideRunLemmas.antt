-- Over a list all that is asked for and made lies inside the policy.
use Rattle.std.proofs.Common.{◌≡◌, ℕ, zero, suc, ◌∷◌, [], List, Some, None, ap, subst, sym, ◌∙◌, inl, inr}
use Rattle.std.specs.List.{slice_get}
use Rattle.policy.specs.Narrowing.{LieInsidePolicy}
use Rattle.policy.specs.declared.entry.Entry.{Entry}
use Rattle.base.specs.declared.selector.Selector.{Selector}
use Rattle.setup.specs.declared.config.Config.{Config}
use Rattle.sadb.specs.declared.pair.Pair.{Pair}
use Rattle.effects.specs.Taking.{Meaning}
use Rattle.ike.specs.Machines.{setup_at, Machine}
use Rattle.ike.specs.Steps.{InputView}
use Rattle.gateway.specs.Histories.{IsPassage, IsTrail, Passage}
use Rattle.gateway.specs.States.{new_gateway, State}
use Rattle.gateway.specs.Steps.{StepsIke}
use Rattle.gateway.specs.Carrying.{KeepsItself}
use Rattle.gateway.specs.Inside.{LiesInside}
use Rattle.gateway.proofs.CarryingLemmas.{empty_none, passage_goes, way_of}
use Rattle.gateway.proofs.InsideLemmas.{child_inside, step_asks, AllAsk, InsideFacts}
use Rattle.gateway.proofs.StandingLemmas.{StepFacts}

none_some : {T : Type 0} (x : T) → None ≡ Some x → ⊥
none_some x e = cc

pub begun : {C : Type 0} (config : Config) (entries : List Entry) (start : ℕ) (caller : C) → LiesInside (new_gateway config entries start caller)
begun {C} config entries start caller = record {
  asks = λ place a there. absurd (none_some a there);
  pairs = λ child pair there. absurd (none_some pair (sym (empty_none start child) ∙ there));
}

same_selectors : (entries : List Entry) (was pair : Pair) → KeepsItself was pair → LieInsidePolicy entries was.remote was.local → LieInsidePolicy entries pair.remote pair.local
same_selectors entries was pair same inside =
    subst (λ (ss : List Selector). LieInsidePolicy entries ss pair.local) (sym same.remote) (subst (λ (ss : List Selector). LieInsidePolicy entries was.remote ss) (sym same.local) inside)

ike_asks : {C : Type 0} (facts : InsideFacts) (meaning_of : C → Meaning) (p : Passage C) (is : IsPassage meaning_of p) (view : InputView)
    → StepsIke (meaning_of p.before.caller) p.before.entries view p.before.machine p.before.table p.said is.steps.trace p.after.machine p.after.table
    → AllAsk p.before.entries p.before.machine.held → AllAsk p.before.entries p.after.machine.held
ike_asks {C} facts meaning_of p is view (inl answers) all =
    step_asks facts (meaning_of p.before.caller) p.before.entries view p.before.machine p.before.table answers.stepped p.after.machine p.after.table is.sound.machine answers.steps all
ike_asks {C} facts meaning_of p is view (inr refuses) all = subst (λ (m : Machine). AllAsk p.before.entries m.held) (sym refuses.machine) all

-- one step
pub stepped : {C : Type 0} (steps : StepFacts) (facts : InsideFacts) (meaning_of : C → Meaning) (p : Passage C) → IsPassage meaning_of p → LiesInside p.before → LiesInside p.after
stepped {C} steps facts meaning_of p is all =
    let same : p.after.entries ≡ p.before.entries = ap (λ (s : State C). s.entries) is.steps.traces.kept in
    let asks : AllAsk p.before.entries p.after.machine.held = elim (passage_goes meaning_of p is) [
      | inl at ↦ ike_asks facts meaning_of p is at.view at.steps all.asks
      | inr at ↦ subst (λ (m : Machine). AllAsk p.before.entries m.held) (sym at.machine) all.asks
    ] in
    record {
      asks = subst (λ (es : List Entry). AllAsk es p.after.machine.held) (sym same) asks;
      pairs = λ child pair there. subst (λ (es : List Entry). LieInsidePolicy es pair.remote pair.local) (sym same) (elim (way_of steps meaning_of p is child pair there) [
        | inl stayed ↦ same_selectors p.before.entries stayed.was pair stayed.same (all.pairs child stayed.was stayed.there)
        | inr came ↦
            let inside = child_inside (meaning_of p.before.caller) (setup_at p.before.machine p.before.entries came.fresh) came.octets p.before.machine.held p.before.table came.stepped came.made p.after.machine.held p.after.table all.asks came.makes in
            subst (λ (q : Pair). LieInsidePolicy p.before.entries q.remote q.local) came.same inside
      ]);
    }

same_passage : {C : Type 0} (p q : Passage C) → Some p ≡ Some q → p ≡ q
same_passage {C} p q is = cc

module _ {C : Type 0} (steps : StepFacts) (facts : InsideFacts) (meaning_of : C → Meaning) where
  pub ended : (old new : State C) (ps : List (Passage C)) → IsTrail meaning_of old ps new → LiesInside old → LiesInside new
  ended old new [] trail all = subst (λ (s : State C). LiesInside s) (sym trail) all
  ended old new (p ∷ ps) trail all = ended p.after new ps trail.2 (stepped steps facts meaning_of p trail.1 (subst (λ (s : State C). LiesInside s) (sym trail.0) all))

  pub before_each : (old new : State C) (ps : List (Passage C)) (place : ℕ) (p : Passage C) → IsTrail meaning_of old ps new → LiesInside old → slice_get ps place ≡ Some p → LiesInside p.before
  before_each old new [] place p trail all there = absurd cc
  before_each old new (q ∷ ps) zero p trail all there =
      subst (λ (x : Passage C). LiesInside x.before) (same_passage q p there) (subst (λ (s : State C). LiesInside s) (sym trail.0) all)
  before_each old new (q ∷ ps) (suc k) p trail all there =
      before_each q.after new ps k p trail.2 (stepped steps facts meaning_of q trail.1 (subst (λ (s : State C). LiesInside s) (sym trail.0) all)) there
