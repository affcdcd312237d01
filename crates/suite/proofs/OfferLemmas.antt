-- The answer to an offer, taken apart.
use Rattle.std.proofs.Common.{◌≡◌, ℕ, zero, suc, ◌==◌, true, List, [], ◌∷◌, length, get_or, slice_get, Option, Some, None, MatchOption, All, refl, sym, ap, subst, ◌∙◌, arith}
use Rattle.std.specs.List.{list_all}
use Rattle.std.proofs.lemmas.Bool.{eqb-true, eq-eqb}
use Rattle.std.proofs.lemmas.List.Sums.{AllPass-from_list_all, list_all-from_AllPass}
use Rattle.wire.specs.declared.proposal.Proposal.{Proposal}
use Rattle.wire.specs.declared.proposal.Transform.{Transform}
use Rattle.suite.specs.declared.choice.Chosen.{Chosen}
use Rattle.suite.specs.declared.choice.Wanted.{Wanted}
use Rattle.suite.specs.Choice.{kinds, IsAcceptableProposal, IsChosenProposal}
use Rattle.suite.specs.Offers.{count_of_kind, AcceptsAnswer, IsAcceptableAnswer}

-- each type once
abbrev pub OneEach : List Transform → List ℕ → Type 0
OneEach transforms ks = All (λ kind. count_of_kind transforms kind ≡ 1) ks

pub one_each_holds : (transforms : List Transform) (ks : List ℕ) → list_all (λ kind. count_of_kind transforms kind == 1) ks ≡ true → OneEach transforms ks
one_each_holds transforms ks passes = λ k d below. eqb-true (count_of_kind transforms (get_or ks k d)) 1 (AllPass-from_list_all (λ kind. count_of_kind transforms kind == 1) ks passes k d below)

pub one_each_passes : (transforms : List Transform) (ks : List ℕ) → OneEach transforms ks → list_all (λ kind. count_of_kind transforms kind == 1) ks ≡ true
one_each_passes transforms ks each = list_all-from_AllPass (λ kind. count_of_kind transforms kind == 1) ks (λ k d below. eq-eqb (count_of_kind transforms (get_or ks k d)) 1 (each k d below))

pub one_item : (p : Proposal) (place : ℕ) (q : Proposal) → slice_get (p ∷ []) place ≡ Some q → p ≡ q
one_item p zero q e = cc
one_item p (suc place) q e = cc

pub accepted_by : (w : Wanted) (ps : List Proposal) (p : Proposal) (r : Option Chosen) → ps ≡ p ∷ [] → p.number ≡ 1 → OneEach p.transforms (kinds w) → MatchOption r (All (λ q. ¬ IsAcceptableProposal w q) ps) (IsChosenProposal w ps)
    → MatchOption r ((q : Proposal) → ps ≡ q ∷ [] → ¬ IsAcceptableAnswer w q) (AcceptsAnswer w ps)
accepted_by w ps p None is number each none = λ q here answer. subst (λ (xs : List Proposal). All (λ x. ¬ IsAcceptableProposal w x) xs) here none 0 q (omega arith) answer.acceptable
accepted_by w ps p (Some chosen) is number each found =
    let same : p ≡ found.proposal = one_item p chosen.place found.proposal (subst (λ (xs : List Proposal). slice_get xs chosen.place ≡ Some found.proposal) is found.here) in
    record {
      proposal = p;
      alone = is;
      answer = record { acceptable = subst (λ (x : Proposal). IsAcceptableProposal w x) (sym same) found.acceptable; number = number; one_each = each };
      choice = found;
    }

abbrev head_of : List Proposal → Proposal → Proposal
head_of [] p = p
head_of (q ∷ qs) p = q

-- what a list of one is answered with is said of its item
pub refused_by : (w : Wanted) (ps : List Proposal) (p : Proposal) → ps ≡ p ∷ [] → ((p.number ≡ 1) × OneEach p.transforms (kinds w) → ⊥) → (q : Proposal) → ps ≡ q ∷ [] → ¬ IsAcceptableAnswer w q
refused_by w ps p is not q here answer =
    let same : p ≡ q = ap (λ xs. head_of xs p) (sym is ∙ here) in
    not (subst (λ (x : Proposal). (x.number ≡ 1) × OneEach x.transforms (kinds w)) (sym same) (answer.number, answer.one_each))

pub list_of_one : (ps : List Proposal) (d : Proposal) → length ps ≡ 1 → ps ≡ get_or ps 0 d ∷ []
list_of_one [] d e = absurd (omega arith)
list_of_one (p ∷ []) d e = refl
list_of_one (p ∷ q ∷ ps) d e = absurd (omega arith)
