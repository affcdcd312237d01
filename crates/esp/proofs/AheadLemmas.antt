-- ICVs that are computed ahead, and runs over groups of packets.
use Rattle.std.proofs.Common.{◌≡◌, ℕ, zero, suc, ◌+◌, ◌-◌, ◌/◌, ◌^◌, ◌<◌, ◌≤◌, List, [], ◌∷◌, ◌++◌, length, map, take, drop, get_or, refl, sym, ap, ◌∙◌, subst, arith, inl, inr, Some, None, Option, length-append, length-drop}
use Rattle.std.specs.Prelude.{◌≢◌, IsSome, IfSome, if◌then◌else◌, All, replicate}
use Rattle.std.proofs.lemmas.List.Elements.{All-append, All-from_get_or, All-more, All-take, All-drop, All-weaker}
use Rattle.std.specs.Borrow.{Bor}
use Rattle.std.proofs.lemmas.List.{append_assoc, take_more, take_more_set, map-append, take-map, drop-map, length-take-le, take-take, get_or-set_same, get_or-set_other, get_or-replicate, get_or_past, length-replicate}
use Rattle.std.proofs.Math.ListN.{set}
use Rattle.std.proofs.lemmas.Bool.{cases_lt}
use Rattle.byteorder.specs.Endian.{big_bytes}
use Rattle.mac.specs.Hmac.{icv_sha256}
use Rattle.lanes.specs.Task.{icv_of}
use Rattle.lanes.specs.declared.task.Task.{Task}
use Rattle.esp.specs.declared.sa.Sa.{Sa}
use Rattle.esp.specs.declared.ahead.Asked.{Asked}
use Rattle.esp.specs.declared.ahead.Ahead.{Ahead}
use Rattle.esp.specs.Views.{Receiving}
use Rattle.esp.specs.Opening.{Answer, Run}
use Rattle.esp.specs.Ahead.{value_of, HasAhead, value_asked, IsAhead, AreAhead, RunsFirst}
use Rattle.esp.specs.Delivery.{octets_of}
use Rattle.esp.proofs.LayingLemmas.{take-more}
use Rattle.esp.proofs.Runs.{run_joined, step_keeps}

-- ---- what is asked

-- what is asked of one packet is its ICV
pub asked_value : (a : Sa) (packets : List (List ℕ)) (one : Asked) (b part value : List ℕ) → value ≡ icv_sha256 a.key (part ++ (if a.extended then one.half else []))
    → b ≡ get_or packets one.place [] → part ≡ take (length b - 16) b → one.half ≡ big_bytes 4 (one.number / 2 ^ 32) → value ≡ value_asked a packets one
asked_value a packets one b part value is e_b e_part e_half =
    is
    ∙ ap (λ (xs : List ℕ). icv_sha256 a.key (xs ++ (if a.extended then one.half else []))) (e_part ∙ ap (λ (q : List ℕ). take (length q - 16) q) e_b)
    ∙ ap (λ (h : List ℕ). icv_sha256 a.key (take (length (get_or packets one.place []) - 16) (get_or packets one.place []) ++ (if a.extended then h else []))) e_half

-- one task more
pub asked_more : (f : Asked → List ℕ) (j : ℕ) (tasks : List Task) (asked : List Asked) (t : Task) (d : Asked) → j < length tasks → j < length asked
    → map icv_of (take j tasks) ≡ map f (take j asked) → icv_of t ≡ f (get_or asked j d) → map icv_of (take (j + 1) (set tasks j t)) ≡ map f (take (j + 1) asked)
asked_more f j tasks asked t d in_tasks in_asked so_far here =
    ap (map icv_of) (take_more_set tasks j t in_tasks)
    ∙ map-append icv_of (take j tasks) (t ∷ [])
    ∙ ap (λ (v : List ℕ). map icv_of (take j tasks) ++ v ∷ []) here
    ∙ ap (λ (vs : List (List ℕ)). vs ++ f (get_or asked j d) ∷ []) so_far
    ∙ sym (map-append f (take j asked) (get_or asked j d ∷ []))
    ∙ sym (ap (map f) (take_more asked j d in_asked))

one_alone : (P : Asked → Type 0) (one : Asked) → P one → (i : ℕ) → i < length (one ∷ []) → P (get_or (one ∷ []) i one)
one_alone P one here zero h = here
one_alone P one here (suc i) h = here

-- one more is asked for
pub found_more : (P : Asked → Type 0) (before after : List Asked) (k m : ℕ) (one : Asked) → after ≡ set before k one → m ≡ k + 1 → k < length before
    → All P (take k before) → P one → All P (take m after)
found_more P before after k m one is count within so_far here =
    let more : take m after ≡ take k before ++ one ∷ [] =
    ap (take m) is ∙ ap (λ (n : ℕ). take n (set before k one)) count ∙ take_more_set before k one within
    in
    let both : All P (take k before ++ one ∷ []) =
    All-append P (take k before) (one ∷ []) so_far (All-from_get_or P (one ∷ []) one (one_alone P one here))
    in
    subst (All P) (sym more) both

-- ---- what was computed ahead

-- nothing is ahead where nothing was put
pub none_ahead : (a : Sa) (packets : List (List ℕ)) (ahead : List (Option Ahead)) → ((i : ℕ) → get_or ahead i None ≡ None) → AreAhead a packets ahead
none_ahead a packets ahead none = record { each = λ i found there. (let nothing = none i in absurd (cc)) }

pub none_in : (n i : ℕ) → get_or {A = Option Ahead} (replicate n None) i None ≡ None
none_in n i = elim (cases_lt i n) [
  | inl within ↦ get_or-replicate n i None None within
  | inr past ↦ get_or_past (replicate n None) i None (omega (arith, length-replicate {A = Option Ahead} n None))
]

-- one value more
pub ahead_more : (a : Sa) (packets : List (List ℕ)) (ahead : List (Option Ahead)) (place : ℕ) (x : Ahead) → place < length ahead → AreAhead a packets ahead
    → x.value ≡ value_of a x.number (get_or packets place []) → AreAhead a packets (set ahead place (Some x))
ahead_more a packets ahead place x within so_far right = record {
  each = λ i found there. elim (cases_lt i place) [
    | inl below ↦ (let other : i ≢ place = omega arith in so_far.each i found (sym (get_or-set_other ahead place i (Some x) None other) ∙ there))
    | inr above ↦ elim (cases_lt place i) [
      | inl over ↦ (let other : i ≢ place = omega arith in so_far.each i found (sym (get_or-set_other ahead place i (Some x) None other) ∙ there))
      | inr at ↦
          let same : place ≡ i = omega arith in
          let set_here : Some x ≡ Some found = sym (get_or-set_same ahead place (Some x) None within) ∙ ap (λ (k : ℕ). get_or (set ahead place (Some x)) k None) same ∙ there in
          let is : x ≡ found = cc in
          subst (λ (k : ℕ). IsAhead a (get_or packets k []) found) same
          (subst (λ (y : Ahead). IsAhead a (get_or packets place []) y) is (record { right = right }))
    ]
  ];
}

there_still : (ahead : List (Option Ahead)) (place : ℕ) (x : Ahead) (one : Asked) → place < length ahead → HasAhead ahead one → HasAhead (set ahead place (Some x)) one
there_still ahead place x one within there = elim (cases_lt one.place place) [
  | inl below ↦ (let other : one.place ≢ place = omega arith in subst (λ (o : Option Ahead). IsSome o) (sym (get_or-set_other ahead place one.place (Some x) None other)) there)
  | inr above ↦ elim (cases_lt place one.place) [
    | inl over ↦ (let other : one.place ≢ place = omega arith in subst (λ (o : Option Ahead). IsSome o) (sym (get_or-set_other ahead place one.place (Some x) None other)) there)
    | inr at ↦
        let same : place ≡ one.place = omega arith in
        subst (λ (k : ℕ). IsSome (get_or (set ahead place (Some x)) k None)) same (subst (λ (o : Option Ahead). IsSome o) (sym (get_or-set_same ahead place (Some x) None within)) refl)
  ]
]

-- one more has its value
pub there_more : (ahead : List (Option Ahead)) (asked : List Asked) (turn : ℕ) (d : Asked) (x : Ahead) → turn < length asked → (get_or asked turn d).place < length ahead
    → All (HasAhead ahead) (take turn asked) → All (HasAhead (set ahead (get_or asked turn d).place (Some x))) (take (turn + 1) asked)
there_more ahead asked turn d x in_asked within so_far =
    let after : List (Option Ahead) = set ahead (get_or asked turn d).place (Some x) in
    let here : HasAhead after (get_or asked turn d) =
    subst (λ (o : Option Ahead). IsSome o) (sym (get_or-set_same ahead (get_or asked turn d).place (Some x) None within)) refl
    in
    All-more (HasAhead after) asked turn d in_asked
    (All-weaker (HasAhead ahead) (HasAhead after) (λ one there. there_still ahead (get_or asked turn d).place x one within there) (take turn asked) so_far) here

-- what is ahead for one packet
pub if_ahead : (P : Ahead → Type 0) (o : Option Ahead) → ((found : Ahead) → o ≡ Some found → P found) → IfSome o P
if_ahead P None each = tt
if_ahead P (Some x) each = each x refl

-- ---- runs

-- a run keeps the SA
pub run_keeps : (want : Type 0) (old : Receiving) (bs : List (List ℕ)) (rs : List Answer) (new : Receiving) → Run want old bs rs new → new.association ≡ old.association
run_keeps want old [] [] new run = ap (λ (r : Receiving). r.association) run
run_keeps want old (b ∷ bs) (r ∷ rs) new run = run_keeps want run.0 bs rs new run.2 ∙ step_keeps want old b r run.0 run.1
run_keeps want old [] (r ∷ rs) new run = absurd run
run_keeps want old (b ∷ bs) [] new run = absurd run

-- one group after another
pub runs_more : (want : Type 0) (g size k : ℕ) (old mid new : Receiving) (ps : List (List ℕ)) (before between after : List Answer)
    → RunsFirst want g old ps before mid between → g + size ≤ length ps → RunsFirst want k mid (take size (drop g ps)) between new after
    → RunsFirst want (g + k) old ps before new after
runs_more want g size k old mid new ps before between after first fits second =
    let long : length (take size (drop g ps)) ≡ size = length-take-le size (drop g ps) (omega (arith, length-drop g ps)) in
    let within = second.within in
    let few : k ≤ size = omega arith in
    let parts : take (g + k) ps ≡ take g ps ++ take k (take size (drop g ps)) =
    take-more ps g k ∙ ap (λ (xs : List (List ℕ)). take g ps ++ xs) (sym (take-take k size (drop g ps) few))
    in
    record {
      within = omega arith;
      answers = first.answers ++ second.answers;
      appended = second.appended ∙ ap (λ (xs : List Answer). xs ++ second.answers) first.appended ∙ append_assoc before first.answers second.answers;
      count = length-append first.answers second.answers ∙ (let one = first.count in let two = second.count in omega arith);
      run = subst (λ (bs : List (List ℕ)). Run want old bs (first.answers ++ second.answers) new) (sym parts)
          (run_joined want old (take g ps) first.answers mid (take k (take size (drop g ps))) second.answers new first.run second.run);
    }

-- the packets of a group are those of the list
pub group_part : (ps : List (Bor (List ℕ))) (g size : ℕ) → octets_of (take size (drop g ps)) ≡ take size (drop g (octets_of ps))
group_part ps g size = sym (take-map (λ p. p.now) size (drop g ps)) ∙ ap (take size) (sym (drop-map (λ p. p.now) g ps))

pub group_of : (P : List ℕ → Type 0) (ps : List (Bor (List ℕ))) (g size : ℕ) → All P (octets_of ps) → All P (octets_of (take size (drop g ps)))
group_of P ps g size all = subst (All P) (sym (group_part ps g size)) (All-take P size (drop g (octets_of ps)) (All-drop P g (octets_of ps) all))
