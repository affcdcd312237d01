-- Inputs that are taken in groups, with ICVs that were computed ahead.
use Rattle.std.proofs.Common.{◌≡◌, ◌≢◌, ◌+◌, ◌<◌, ◌≤◌, ◌++◌, ℕ, List, length, map, take, drop, get_or, refl, sym, ap, ◌∙◌, subst, arith, min, inl, inr, append_assoc, Option, Some, None, length-drop}
use Rattle.std.specs.Prelude.{IfSome, replicate}
use Rattle.std.proofs.lemmas.Bool.{cases_lt}
use Rattle.std.proofs.lemmas.List.{drop-take, length-take-le, take-append-drop, take-take, get_or-set_same, get_or-set_other, get_or-replicate, get_or-take, get_or_past, length-replicate, length-take}
use Rattle.std.proofs.lemmas.Option.{slice_get-get_or}
use Rattle.std.proofs.Math.ListN.{set}
use Rattle.base.specs.Octets.{Octets}
use Rattle.effects.specs.Taking.{Meaning}
use Rattle.esp.specs.Precomputed.{ArePrecomputed, AreQuestions, IsPrecomputed, IsQuestion}
use Rattle.esp.specs.declared.precomputed.Precomputed.{Precomputed}
use Rattle.esp.specs.declared.precomputed.Question.{Question}
use Rattle.gateway.specs.Groups.{TakesFirst, packet_if, packet_in, packets_in}
use Rattle.gateway.specs.Inputs.{Input, input_view}
use Rattle.gateway.specs.declared.input.Input as lent
use Rattle.gateway.specs.Runs.{Runs, StepsAs}
use Rattle.gateway.specs.States.{State}
use Rattle.gateway.specs.declared.output.Output.{Output}
use Rattle.gateway.proofs.RunLemmas.{next_in_image, runs_joined, within_image}

-- ---- ICVs

if_found : (P : Precomputed → Type 0) (o : Option Precomputed) → ((found : Precomputed) → o ≡ Some found → P found) → IfSome o P
if_found P None each = tt
if_found P (Some x) each = each x refl

pub packet_at : (inputs : List Input) (k : ℕ) (i : Input) → k < length inputs → i ≡ get_or inputs k i → packets_in inputs k ≡ packet_in i
packet_at inputs k i h is = ap packet_if (slice_get-get_or inputs k i h) ∙ ap packet_in (sym is)

-- the same of what is lent; whatever an index past its end would give
pub packet_at_place : (inputs : List lent.Input) (k : ℕ) (d : lent.Input) → k < length inputs → packets_in (map input_view inputs) k ≡ packet_in (input_view (get_or inputs k d))
packet_at_place inputs k d h = packet_at (map input_view inputs) k (input_view (get_or inputs k d)) (within_image input_view inputs k h) (next_in_image input_view inputs k d h)

-- the value at an input's place is that of its packet
pub value_for : (inputs : List Input) (ahead : List (Option Precomputed)) (k : ℕ) (i : Input) (value : Option Precomputed)
    → ArePrecomputed (packets_in inputs) ahead → k < length inputs → i ≡ get_or inputs k i → value ≡ get_or ahead k None → IfSome value (IsPrecomputed (packet_in i))
value_for inputs ahead k i value all h is there =
    if_found (IsPrecomputed (packet_in i)) value (λ found e. subst (λ (b : Octets). IsPrecomputed b found) (packet_at inputs k i h is) (all.each k found (sym there ∙ e)))

none_in : (n i : ℕ) → get_or {A = Option Question} (replicate n None) i None ≡ None
none_in n i = elim (cases_lt i n) [
  | inl within ↦ get_or-replicate n i None None within
  | inr past ↦ get_or_past (replicate n None) i None (omega (arith, length-replicate {A = Option Question} n None))
]

-- where nothing was asked yet
pub none_asked : (packets : ℕ → Octets) (n : ℕ) → AreQuestions packets (replicate n None)
none_asked packets n = record { each = λ i question there. (let nothing = none_in n i in absurd (cc)) }

below_end : (xs : List (Option Question)) (n i : ℕ) (question : Question) → get_or (take n xs) i None ≡ Some question → i < n
below_end xs n i question there = elim (cases_lt i n) [
  | inl below ↦ below
  | inr past ↦
      let nothing : get_or (take n xs) i None ≡ None = get_or_past (take n xs) i None (omega (arith, length-take n xs)) in
      absurd (cc)
]

-- of the first so many
pub asked_front : (packets : ℕ → Octets) (questions : List (Option Question)) (n : ℕ) → AreQuestions packets questions → AreQuestions packets (take n questions)
asked_front packets questions n asked = record {
  each = λ i question there. asked.each i question (sym (get_or-take n questions i None (below_end questions n i question there)) ∙ there);
}

is_about : (P : Question → Type 0) (o : Option Question) (question : Question) → IfSome o P → o ≡ Some question → P question
is_about P o question all is = subst (λ (x : Option Question). IfSome x P) is all

-- one packet more was asked for
pub asked_more : (packets : ℕ → Octets) (questions : List (Option Question)) (place : ℕ) (x : Option Question) → place < length questions → AreQuestions packets questions
    → IfSome x (IsQuestion (packets place)) → AreQuestions packets (set questions place x)
asked_more packets questions place x within so_far right = record {
  each = λ i question there. elim (cases_lt i place) [
    | inl below ↦ (let other : i ≢ place = omega arith in so_far.each i question (sym (get_or-set_other questions place i x None other) ∙ there))
    | inr above ↦ elim (cases_lt place i) [
      | inl over ↦ (let other : i ≢ place = omega arith in so_far.each i question (sym (get_or-set_other questions place i x None other) ∙ there))
      | inr at ↦
          let same : place ≡ i = omega arith in
          let here : x ≡ Some question = sym (get_or-set_same questions place x None within) ∙ ap (λ (k : ℕ). get_or (set questions place x) k None) same ∙ there in
          subst (λ (k : ℕ). IsQuestion (packets k) question) same (is_about (IsQuestion (packets place)) x question right here)
    ]
  ];
}

-- ---- groups

take_more : {X : Type 0} (xs : List X) (a m : ℕ) → take (a + m) xs ≡ take a xs ++ take m (drop a xs)
take_more {X} xs a m =
    sym (take-append-drop a (take (a + m) xs))
    ∙ ap (λ (ys : List X). ys ++ drop a (take (a + m) xs)) (take-take a (a + m) xs (omega arith))
    ∙ ap (λ (ys : List X). take a xs ++ ys) (drop-take a m xs)

-- one group after another
pub takes_more : {C : Type 0} (meaning_of : C → Meaning) (g size k : ℕ) (old mid new : State C) (inputs : List Input) (before between after : List Output)
    → TakesFirst meaning_of g inputs old before mid between → g + size ≤ length inputs → TakesFirst meaning_of k (take size (drop g inputs)) mid between new after
    → TakesFirst meaning_of (g + k) inputs old before new after
takes_more {C} meaning_of g size k old mid new inputs before between after first fits second =
    let long : length (take size (drop g inputs)) ≡ size = length-take-le size (drop g inputs) (omega (arith, length-drop g inputs)) in
    let within = second.within in
    let few : k ≤ size = omega arith in
    let parts : take (g + k) inputs ≡ take g inputs ++ take k (take size (drop g inputs)) =
    take_more inputs g k ∙ ap (λ (xs : List Input). take g inputs ++ xs) (sym (take-take k size (drop g inputs) few))
    in
    record {
      within = omega arith;
      outputs = first.outputs ++ second.outputs;
      appended = second.appended ∙ ap (λ (xs : List Output). xs ++ second.outputs) first.appended ∙ append_assoc before first.outputs second.outputs;
      runs = subst (λ (is : List Input). Runs (StepsAs meaning_of) is (first.outputs ++ second.outputs) old new) (sym parts)
          (runs_joined (StepsAs meaning_of) (take g inputs) first.outputs (take k (take size (drop g inputs))) second.outputs old mid new first.runs second.runs);
    }
