-- A list that is sealed in groups.
use Rattle.std.proofs.Common.{◌≡◌, ℕ, zero, suc, ◌+◌, ◌<◌, ◌≤◌, List, [], ◌∷◌, length, take, drop, get_or, refl, sym, ap, ◌∙◌, subst, arith, inl, inr, Option, Some, None, length-drop}
use Rattle.std.specs.Prelude.{◌≢◌, IfSome, IfNone}
use Rattle.std.specs.Borrow.{Bor}
use Rattle.std.proofs.lemmas.Bool.{cases_lt}
use Rattle.std.proofs.lemmas.List.{get_or-take, get_or-drop, get_or-map, length-take-le, take-take, drop-take, drop_all, drop-drop, drop_more}
use Rattle.std.proofs.lemmas.Option.{slice_get-get_or}
use Rattle.esp.specs.Views.{Sending}
use Rattle.esp.specs.Sealing.{Seals, SealRun, SealsFirst, IsSealRefusal, IsSealStop, most_octets, payloads_of}
use Rattle.esp.specs.declared.fault.EspFault.{EspFault}
use Rattle.esp.specs.declared.fault.EspFault.TheVariants.{Memory}
use Rattle.esp.proofs.LayingLemmas.{octets_at, seals_more}

pub if_some : {T : Type 0} (o : Option T) (x : T) (P : T → Type 0) → o ≡ Some x → IfSome o P → P x
if_some o x P is h = subst (λ (y : Option _). IfSome y P) is h

pub if_none : {T : Type 0} (o : Option T) (P : Type 0) → o ≡ None → IfNone o P → P
if_none o P is h = subst (λ (y : Option _). IfNone y P) is h

-- octets of the first payloads, and of the others
pub most_split : (xs : List (List ℕ)) (n : ℕ) → most_octets xs ≡ most_octets (take n xs) + most_octets (drop n xs)
most_split xs zero = let same : most_octets xs ≡ 0 + most_octets xs = omega arith in same
most_split [] (suc n) = refl
most_split (x ∷ xs) (suc n) = let rest = most_split xs n in omega arith

same_some : (x y : List ℕ) → Some x ≡ Some y → x ≡ y
same_some x y e = cc

-- one payload more is sealed
pub seals_one_more : (k n : ℕ) (old : Sending) (next : ℕ) (ps : List (List ℕ)) (before between after : List ℕ) (mid new : Sending)
    → SealsFirst k old next ps before mid between → k < length ps → Seals mid next (get_or ps k []) between n new after → SealsFirst (k + 1) old next ps before new after
seals_one_more k n old next ps before between after mid new first within one =
    let here : take 1 (drop k ps) ≡ get_or ps k [] ∷ [] = ap (take 1) (drop_more ps k [] within) in
    let second : SealsFirst 1 mid next (take 1 (drop k ps)) between new after = record {
      within = omega (arith, ap length here);
      run = subst (λ (qs : List (List ℕ)). SealRun mid next (take 1 qs) between new after) (sym here) (n, new, after, one, (refl, refl));
      last = one.last ∙ ap (λ (m : ℕ). record mid { last = m }) one.number;
    } in
    seals_more k 1 1 old next ps before between after mid new first (omega arith) second

-- a group that stopped stops the list
pub stops : (g size k : ℕ) (old : Sending) (next : ℕ) (ps qs : List (List ℕ)) (before between after : List ℕ) (mid new : Sending) (fault : EspFault)
    → SealsFirst g old next ps before mid between → g + size ≤ length ps → qs ≡ take size (drop g ps) → SealsFirst k mid next qs between new after
    → k < length qs → IsSealRefusal new (get_or qs k []) fault → IsSealStop old next ps before (record { done = g + k; fault = fault }) new after
stops g size k old next ps qs before between after mid new fault first fits are second within refusal =
    let long : length (take size (drop g ps)) ≡ size = length-take-le size (drop g ps) (omega (arith, length-drop g ps)) in
    let count : length qs ≡ size = ap length are ∙ long in
    let here : get_or qs k [] ≡ get_or ps (g + k) [] =
    ap (λ (xs : List (List ℕ)). get_or xs k []) are ∙ get_or-take size (drop g ps) k [] (omega arith) ∙ get_or-drop g ps k []
    in
    let left : g + k < length ps = omega arith in
    record {
      some_left = left;
      first = seals_more g size k old next ps before between after mid new first fits (subst (λ (xs : List (List ℕ)). SealsFirst k mid next xs between new after) are second);
      refused = λ payload there.
          let same : get_or ps (g + k) [] ≡ payload = same_some _ _ (sym (slice_get-get_or ps (g + k) [] left) ∙ there) in
          subst (λ (p : List ℕ). IsSealRefusal new p fault) (here ∙ same) refusal;
    }

-- what may still be taken after a whole group
pub room_after : (g size k before after start : ℕ) (ps qs : List (List ℕ)) → qs ≡ take size (drop g ps) → k ≡ length qs
    → after + most_octets (drop k qs) ≤ before + most_octets qs → before + most_octets (drop g ps) ≤ start → after + most_octets (drop (g + size) ps) ≤ start
room_after g size k before after start ps qs are all growth room =
    let none : most_octets (drop k qs) ≡ 0 = ap most_octets (drop_all k qs (omega arith)) in
    let split = most_split (drop g ps) size in
    let rest : most_octets (drop size (drop g ps)) ≡ most_octets (drop (g + size) ps) = ap most_octets (drop-drop size g ps) in
    let front : most_octets qs ≡ most_octets (take size (drop g ps)) = ap most_octets are in
    omega arith

-- ---- room

-- the first packets take no more than more of them
most_first : (xs : List (List ℕ)) (m n : ℕ) → m ≤ n → most_octets (take m xs) ≤ most_octets (take n xs)
most_first xs m n few =
    let split = most_split (take n xs) m in
    let same : most_octets (take m (take n xs)) ≡ most_octets (take m xs) = ap most_octets (take-take m n xs few) in
    omega arith

-- the next payload is the one at its place
pub refused_at : (ps : List (Bor (List ℕ))) (k : ℕ) (d : Bor (List ℕ)) (P : List ℕ → Type 0) → k < length ps → P (get_or ps k d).now → P (get_or (payloads_of ps) k [])
refused_at ps k d P within here = subst P (sym (get_or-map (λ p. p.now) ps k d [] within)) here

-- where the next packet has no room behind those before it, the first packets with it have none
pub wants_memory : (ps : List (Bor (List ℕ))) (k : ℕ) (d : Bor (List ℕ)) (before capacity now capacity_now : ℕ) (fault : EspFault)
    → k < length ps → capacity ≤ capacity_now → now + most_octets (drop k (payloads_of ps)) ≤ before + most_octets (payloads_of ps)
    → (now + (length (get_or ps k d).now + 29) ≤ capacity_now → fault ≢ Memory) → fault ≡ Memory
    → capacity < before + most_octets (take (k + 1) (payloads_of ps))
wants_memory ps k d before capacity now capacity_now fault within kept left room is =
    let here = octets_at ps k d within in
    let split = most_split (payloads_of ps) (k + 1) in
    elim (cases_lt capacity_now (now + (length (get_or ps k d).now + 29))) [
      | inl short ↦ omega arith
      | inr enough ↦ absurd (room enough is)
    ]

-- a group that wanted memory had none for the packets before the next one, and so the list has not
pub room_left : (g size k m : ℕ) (ps qs : List (List ℕ)) (before capacity now capacity_now : ℕ)
    → qs ≡ take size (drop g ps) → k < size → g + size ≤ length ps → capacity ≤ capacity_now
    → now + most_octets (drop g ps) ≤ before + most_octets ps → capacity_now < now + most_octets (take (k + 1) qs)
    → before + most_octets (take m ps) ≤ capacity → m ≤ g + k
room_left g size k m ps qs before capacity now capacity_now are within fits kept left short enough =
    elim (cases_lt (g + k) m) [
      | inr few ↦ few
      | inl more ↦
          let part : take (k + 1) qs ≡ take (k + 1) (drop g ps) = ap (take (k + 1)) are ∙ take-take (k + 1) size (drop g ps) (omega arith) in
          let size_part : most_octets (take (k + 1) qs) ≡ most_octets (take (k + 1) (drop g ps)) = ap most_octets part in
          let whole = most_split ps g in
          let first = most_split (take (g + (k + 1)) ps) g in
          let front : most_octets (take g (take (g + (k + 1)) ps)) ≡ most_octets (take g ps) = ap most_octets (take-take g (g + (k + 1)) ps (omega arith)) in
          let behind : most_octets (drop g (take (g + (k + 1)) ps)) ≡ most_octets (take (k + 1) (drop g ps)) = ap most_octets (drop-take g (k + 1) ps) in
          let larger = most_first ps (g + (k + 1)) m (omega arith) in
          absurd (omega arith)
    ]
