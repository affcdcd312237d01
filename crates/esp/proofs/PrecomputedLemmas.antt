-- ICVs that were computed before their packets are opened: questions, and what answers them.
use Rattle.std.proofs.Common.{◌≡◌, ℕ, zero, suc, ◌+◌, ◌-◌, ◌<◌, Bool, List, [], ◌∷◌, ◌++◌, length, map, take, get_or, sym, ap, ◌∙◌, subst, arith, inl, inr, Some, None, Option}
use Rattle.std.specs.Prelude.{◌≢◌, if◌then◌else◌, All, replicate}
use Rattle.std.proofs.lemmas.List.Elements.{All-append, All-from_get_or}
use Rattle.std.proofs.lemmas.List.{take_more, take_more_set, map-append, get_or-set_same, get_or-set_other, get_or-replicate, get_or_past, length-replicate}
use Rattle.std.proofs.Math.ListN.{set}
use Rattle.std.proofs.lemmas.Bool.{cases_lt}
use Rattle.mac.specs.Hmac.{icv_sha256}
use Rattle.lanes.specs.Task.{icv_of}
use Rattle.lanes.specs.declared.task.Task.{Task}
use Rattle.esp.specs.declared.sa.Sa.{Sa}
use Rattle.esp.specs.declared.ahead.Ahead.{Ahead}
use Rattle.esp.specs.declared.precomputed.Asked.{Asked}
use Rattle.esp.specs.declared.precomputed.Precomputed.{Precomputed}
use Rattle.esp.specs.declared.precomputed.Question.{Question}
use Rattle.esp.specs.Ahead.{IsAhead}
use Rattle.esp.specs.Packet.{unsent_half}
use Rattle.esp.specs.Precomputed.{ArePrecomputed, IsPrecomputed, IsQuestion, asked_value}

-- the value is the SA's own
pub under_association : (b : List ℕ) (found : Precomputed) (a : Sa) (own : Ahead) → IsPrecomputed b found → found.extended ≡ a.extended → found.key ≡ a.key
    → own.number ≡ found.number → own.value ≡ found.value → IsAhead a b own
under_association b found a own is extended key number value = record {
  right =
      value
      ∙ is.right
      ∙ ap (λ (k : List ℕ). icv_sha256 k (take (length b - 16) b ++ unsent_half found.extended found.number)) key
      ∙ ap (λ (e : Bool). icv_sha256 a.key (take (length b - 16) b ++ unsent_half e found.number)) extended
      ∙ ap (λ (n : ℕ). icv_sha256 a.key (take (length b - 16) b ++ unsent_half a.extended n)) (sym number);
}

-- the answer to a question about a packet is its ICV
pub precomputed_at : (b : List ℕ) (question : Question) (found : Precomputed) → IsQuestion b question → found.key ≡ question.association.now.key
    → found.extended ≡ question.association.now.extended → found.number ≡ question.number → found.value ≡ asked_value question → IsPrecomputed b found
precomputed_at b question found is key extended number value = record {
  right =
      value
      ∙ ap (λ (c : List ℕ). icv_sha256 question.association.now.key (c ++ (if question.association.now.extended then question.half else []))) is.covered
      ∙ ap (λ (h : List ℕ). icv_sha256 question.association.now.key (take (length b - 16) b ++ (if question.association.now.extended then h else []))) is.half
      ∙ ap (λ (n : ℕ). icv_sha256 question.association.now.key (take (length b - 16) b ++ unsent_half question.association.now.extended n)) (sym number)
      ∙ ap (λ (e : Bool). icv_sha256 question.association.now.key (take (length b - 16) b ++ unsent_half e found.number)) (sym extended)
      ∙ ap (λ (k : List ℕ). icv_sha256 k (take (length b - 16) b ++ unsent_half found.extended found.number)) (sym key);
}

-- no value stands anywhere
none_in : (n i : ℕ) → get_or {A = Option Precomputed} (replicate n None) i None ≡ None
none_in n i = elim (cases_lt i n) [
  | inl within ↦ get_or-replicate n i None None within
  | inr past ↦ get_or_past (replicate n None) i None (omega (arith, length-replicate {A = Option Precomputed} n None))
]

pub none_precomputed : (packets : ℕ → List ℕ) (n : ℕ) → ArePrecomputed packets (replicate n None)
none_precomputed packets n = record { each = λ i found there. (let nothing = none_in n i in absurd (cc)) }

one_alone : (P : Asked → Type 0) (one : Asked) → P one → (i : ℕ) → i < length (one ∷ []) → P (get_or (one ∷ []) i one)
one_alone P one here zero h = here
one_alone P one here (suc i) h = here

-- one question more
pub found_more : (P : Asked → Type 0) (before after : List Asked) (k m : ℕ) (one : Asked) → after ≡ set before k one → m ≡ k + 1 → k < length before
    → All P (take k before) → P one → All P (take m after)
found_more P before after k m one is count within so_far here =
    let more : take m after ≡ take k before ++ one ∷ [] =
    ap (take m) is ∙ ap (λ (n : ℕ). take n (set before k one)) count ∙ take_more_set before k one within
    in
    let both : All P (take k before ++ one ∷ []) =
    All-append P (take k before) (one ∷ []) so_far (All-from_get_or P (one ∷ []) one (one_alone P one here))
    in
    subst (All P) (sym more) both

-- one task more
pub asked_more : (f : Asked → List ℕ) (j : ℕ) (tasks : List Task) (asked : List Asked) (t : Task) (d : Asked) → j < length tasks → j < length asked
    → map icv_of (take j tasks) ≡ map f (take j asked) → icv_of t ≡ f (get_or asked j d) → map icv_of (take (j + 1) (set tasks j t)) ≡ map f (take (j + 1) asked)
asked_more f j tasks asked t d in_tasks in_asked so_far here =
    ap (map icv_of) (take_more_set tasks j t in_tasks)
    ∙ map-append icv_of (take j tasks) (t ∷ [])
    ∙ ap (λ (v : List ℕ). map icv_of (take j tasks) ++ v ∷ []) here
    ∙ ap (λ (vs : List (List ℕ)). vs ++ f (get_or asked j d) ∷ []) so_far
    ∙ sym (map-append f (take j asked) (get_or asked j d ∷ []))
    ∙ sym (ap (map f) (take_more asked j d in_asked))

-- one value more
pub precomputed_more : (packets : ℕ → List ℕ) (values : List (Option Precomputed)) (place : ℕ) (x : Precomputed) → place < length values → ArePrecomputed packets values
    → IsPrecomputed (packets place) x → ArePrecomputed packets (set values place (Some x))
precomputed_more packets values place x within so_far right = record {
  each = λ i found there. elim (cases_lt i place) [
    | inl below ↦ (let other : i ≢ place = omega arith in so_far.each i found (sym (get_or-set_other values place i (Some x) None other) ∙ there))
    | inr above ↦ elim (cases_lt place i) [
      | inl over ↦ (let other : i ≢ place = omega arith in so_far.each i found (sym (get_or-set_other values place i (Some x) None other) ∙ there))
      | inr at ↦
          let same : place ≡ i = omega arith in
          let set_here : Some x ≡ Some found = sym (get_or-set_same values place (Some x) None within) ∙ ap (λ (k : ℕ). get_or (set values place (Some x)) k None) same ∙ there in
          let is : x ≡ found = cc in
          subst (λ (k : ℕ). IsPrecomputed (packets k) found) same
          (subst (λ (y : Precomputed). IsPrecomputed (packets place) y) is right)
    ]
  ];
}
