-- Packets that are laid one after the other, and then get their ICVs.
use Rattle.std.proofs.Common.{◌≡◌, ℕ, zero, suc, ◌+◌, ◌-◌, ◌%◌, ◌^◌, ◌<◌, ◌≤◌, List, [], ◌∷◌, ◌++◌, length, map, take, drop, get_or, refl, sym, ap, ◌∙◌, subst, arith, inl, inr, length-append, length-drop}
use Rattle.std.specs.Prelude.{◌≢◌, ◌/◌, Bool, true, false, replicate, slice_set, if◌then◌else◌}
use Rattle.byteorder.specs.Endian.{big_bytes}
use Rattle.mac.specs.Hmac.{icv_sha256}
use Rattle.lanes.specs.Task.{icv_of}
use Rattle.lanes.specs.declared.task.Task.{Task}
use Rattle.std.specs.Borrow.{Bor}
use Rattle.std.proofs.lemmas.List.{append_assoc, append-nil, take_at, drop_at, drop-drop, drop_more, take_more, take_more_set, get_or-map, get_or-set_same, get_or-set_other, map-append, length-map, length-replicate, take-append-drop, take-map, length-take-le, drop-take, take-take, take_all, take_rest, drop_all, get_or-take}
use Rattle.std.proofs.lemmas.Bool.{cases_lt}
use Rattle.std.proofs.lemmas.Slice.{take-put_mid, drop-put_mid}
use borrow.Rule.Slice.PartMut.{put_mid}
use Rattle.esp.specs.declared.sa.Sa.{Sa}
use Rattle.esp.specs.Packet.{head, padding, trailer, check_value, number_limit}
use Rattle.esp.specs.Views.{Sending}
use Rattle.esp.specs.Sealing.{FitsPacket, Seals, SealRun, SealsFirst, payloads_of, most_octets}
use Rattle.esp.specs.Laying.{AreHighHalves, IsReady, pad_of, covered_size, packet_size, covered, laid, LaysFirst, Lays, LaysIn, covered_sizes, packets_size, values_in, with_values}
use Rattle.esp.proofs.ContentsLemmas.{length-padding}
use Rattle.esp.proofs.PacketLemmas.{length-head}
use Rattle.esp.proofs.SealingLemmas.{sealed}

pub length-covered : (a : Sa) (n next : ℕ) (payload : List ℕ) → length (covered a n next payload) ≡ covered_size (length payload)
length-covered a n next payload =
    length-append (head a n ++ payload) (trailer (pad_of (length payload)) next)
    ∙ (let l = length-append (head a n) payload in
    let h = length-head a n in
    let t = length-append (padding (pad_of (length payload))) (pad_of (length payload) ∷ next ∷ []) in
    let q = length-padding (pad_of (length payload)) in
    omega arith)

-- one packet more is laid
pub laid_more : (a : Sa) (last next : ℕ) (ps : List (List ℕ)) (p : List ℕ)
    → laid a last next (ps ++ p ∷ []) ≡ laid a last next ps ++ (covered a (last + length ps + 1) next p ++ replicate 16 0)
laid_more a last next [] p =
    let same : last + 1 ≡ last + 0 + 1 = omega arith in
    append-nil (covered a (last + 1) next p ++ replicate 16 0) ∙ ap (λ (n : ℕ). covered a n next p ++ replicate 16 0) same
laid_more a last next (q ∷ ps) p =
    let one : List ℕ = covered a (last + 1) next q ++ replicate 16 0 in
    let same : last + 1 + length ps + 1 ≡ last + suc (length ps) + 1 = omega arith in
    ap (λ (xs : List ℕ). one ++ xs) (laid_more a (last + 1) next ps p ∙ ap (λ (n : ℕ). laid a (last + 1) next ps ++ (covered a n next p ++ replicate 16 0)) same)
    ∙ sym (append_assoc one (laid a (last + 1) next ps) (covered a (last + suc (length ps) + 1) next p ++ replicate 16 0))

-- the sizes, from the payloads' octets
abbrev pub sizes : List (List ℕ) → List ℕ
sizes ps = map (λ p. covered_size (length p)) ps

pub sizes_are : (ps : List (Bor (List ℕ))) → covered_sizes ps ≡ sizes (payloads_of ps)
sizes_are [] = refl
sizes_are (p ∷ ps) = ap (λ (xs : List ℕ). covered_size (length p.now) ∷ xs) (sizes_are ps)

pub laid_size : (a : Sa) (last next : ℕ) (ps : List (List ℕ)) → packets_size (sizes ps) ≡ length (laid a last next ps)
laid_size a last next [] = refl
laid_size a last next (p ∷ ps) =
    let rest = laid_size a (last + 1) next ps in
    let here = length-covered a (last + 1) next p in
    let zeros = length-append (covered a (last + 1) next p) (replicate 16 0) in
    let whole = length-append (covered a (last + 1) next p ++ replicate 16 0) (laid a (last + 1) next ps) in
    let sixteen = length-replicate {A = ℕ} 16 0 in
    omega arith

-- the least padding is less than a word, and fills one
pub pad_small : (n : ℕ) → pad_of n < 4
pad_small n = omega arith

pub pad_fills : (n : ℕ) → (n + pad_of n + 2) % 4 ≡ 0
pad_fills n = omega arith

abbrev pub sending : Sa → ℕ → Sending
sending a last = record { association = a; last = last }

-- once they have their ICVs, the packets that were laid are those that so many calls would have sealed
pub with_check_values : (a : Sa) (last next : ℕ) (ps : List (List ℕ)) (before : List ℕ) (n : ℕ) → n ≡ length ps
    → ((i : ℕ) → i < n → FitsPacket (get_or ps i [])) → (1 ≤ n → last + n < number_limit a.extended)
    → SealRun (sending a last) next ps before (sending a (last + n)) (before ++ with_values (sizes ps) (values_in a last (sizes ps) (laid a last next ps)) (laid a last next ps))
with_check_values a last next [] before n none fit have =
    let same : last + n ≡ last = omega arith in
    (ap (sending a) same, append-nil before)
with_check_values a last next (p ∷ ps) before n count fit have =
    let size : ℕ = covered_size (length p) in
    let cover : List ℕ = covered a (last + 1) next p in
    let rest : List ℕ = laid a (last + 1) next ps in
    let zeros : List ℕ = replicate 16 0 in
    let value : List ℕ = check_value a (last + 1) cover in
    let long : length cover ≡ size = length-covered a (last + 1) next p in
    let one : length (cover ++ zeros) ≡ size + 16 = length-append cover zeros ∙ (let z = length-replicate {A = ℕ} 16 0 in omega arith) in
    let front : take size ((cover ++ zeros) ++ rest) ≡ cover = ap (take size) (append_assoc cover zeros rest) ∙ take_at cover (zeros ++ rest) size long in
    let behind : drop (size + 16) ((cover ++ zeros) ++ rest) ≡ rest = drop_at (cover ++ zeros) rest (size + 16) one in
    let tail : List ℕ = with_values (sizes ps) (values_in a (last + 1) (sizes ps) rest) rest in
    let whole : with_values (sizes (p ∷ ps)) (values_in a last (sizes (p ∷ ps)) ((cover ++ zeros) ++ rest)) ((cover ++ zeros) ++ rest) ≡ (cover ++ value) ++ tail =
    ap (λ (xs : List ℕ). (xs ++ check_value a (last + 1) xs) ++ with_values (sizes ps) (values_in a (last + 1) (sizes ps) (drop (size + 16) ((cover ++ zeros) ++ rest))) (drop (size + 16) ((cover ++ zeros) ++ rest))) front
    ∙ ap (λ (xs : List ℕ). (cover ++ value) ++ with_values (sizes ps) (values_in a (last + 1) (sizes ps) xs) xs) behind
    in
    let between : List ℕ = before ++ (cover ++ value) in
    let first : Seals (sending a last) next p before (last + 1) (sending a (last + 1)) between =
    sealed (sending a last) next p before (last + 1) (pad_of (length p)) a last between refl refl
    (let h = have (omega arith) in omega arith) (fit 0 (omega arith)) (pad_fills (length p)) (pad_small (length p)) refl
    in
    let after : SealRun (sending a (last + 1)) next ps between (sending a (last + 1 + length ps)) (between ++ tail) =
    with_check_values a (last + 1) next ps between (length ps) refl (λ i h. fit (suc i) (omega arith)) (λ h. (let l = have (omega arith) in omega arith))
    in
    let same : last + 1 + length ps ≡ last + n = omega arith in
    let joined : between ++ tail ≡ before ++ with_values (sizes (p ∷ ps)) (values_in a last (sizes (p ∷ ps)) ((cover ++ zeros) ++ rest)) ((cover ++ zeros) ++ rest) =
    append_assoc before (cover ++ value) tail ∙ ap (λ (xs : List ℕ). before ++ xs) (sym whole)
    in (
      last + 1,
      sending a (last + 1),
      between,
      first,
      subst (λ (xs : List ℕ). SealRun (sending a (last + 1)) next ps between (sending a (last + n)) xs) joined
          (subst (λ (k : ℕ). SealRun (sending a (last + 1)) next ps between (sending a k) (between ++ tail)) same after),
    )

-- one run of seals after another
pub seal_run_joined : (s : Sending) (next : ℕ) (ps qs : List (List ℕ)) (before between after : List ℕ) (mid new : Sending)
    → SealRun s next ps before mid between → SealRun mid next qs between new after → SealRun s next (ps ++ qs) before new after
seal_run_joined s next [] qs before between after mid new first second =
    subst (λ (o : Sending). SealRun o next qs before new after) first.0 (subst (λ (xs : List ℕ). SealRun mid next qs xs new after) first.1 second)
seal_run_joined s next (p ∷ ps) qs before between after mid new first second =
    (first.0, first.1, first.2, first.3, seal_run_joined first.1 next ps qs first.2 between after mid new first.4 second)

-- ---- the loops

-- the payload at a place is no longer than a packet may carry
pub fits_at : (ps : List (Bor (List ℕ))) (j : ℕ) (d : Bor (List ℕ)) → ((i : ℕ) → i < length ps → FitsPacket (get_or (payloads_of ps) i [])) → j < length ps → length (get_or ps j d).now ≤ 16384
fits_at ps j d fit within = subst FitsPacket (get_or-map (λ p. p.now) ps j d [] within) (fit j within)

-- the size at a place
pub sizes_more : (ps : List (Bor (List ℕ))) (j : ℕ) (d : Bor (List ℕ)) → j < length ps
    → drop j (covered_sizes ps) ≡ covered_size (length (get_or ps j d).now) ∷ drop (j + 1) (covered_sizes ps)
sizes_more ps j d within =
    drop_more (covered_sizes ps) j 0 (omega (arith, length-map ps (λ q. covered_size (length q.now))))
    ∙ ap (λ (s : ℕ). s ∷ drop (j + 1) (covered_sizes ps)) (get_or-map (λ q. covered_size (length q.now)) ps j d 0 within)

-- the packet at a place lies within all
pub room_more : (ps : List (Bor (List ℕ))) (j start size total : ℕ) (d : Bor (List ℕ)) → j < length ps → size ≡ covered_size (length (get_or ps j d).now)
    → start + packets_size (drop j (covered_sizes ps)) ≤ total → start + size + 16 + packets_size (drop (j + 1) (covered_sizes ps)) ≤ total
room_more ps j start size total d within is room =
    let here : packets_size (drop j (covered_sizes ps)) ≡ covered_size (length (get_or ps j d).now) + 16 + packets_size (drop (j + 1) (covered_sizes ps)) =
    ap packets_size (sizes_more ps j d within)
    in
    omega arith

pub octets_at : (ps : List (Bor (List ℕ))) (j : ℕ) (d : Bor (List ℕ)) → j < length ps
    → most_octets (drop j (payloads_of ps)) ≡ length (get_or ps j d).now + 29 + most_octets (drop (j + 1) (payloads_of ps))
octets_at ps j d within =
    ap most_octets (drop_more (payloads_of ps) j [] (omega (arith, length-map ps (λ p. p.now))))
    ∙ ap (λ (p : List ℕ). length p + 29 + most_octets (drop (j + 1) (payloads_of ps))) (get_or-map (λ p. p.now) ps j d [] within)

-- one ICV more is asked for
pub value_more : (a : Sa) (last j start size : ℕ) (ss octets : List ℕ) (done : List (List ℕ)) (v : List ℕ) (all : List (List ℕ))
    → drop j ss ≡ size ∷ drop (j + 1) ss → v ≡ check_value a (last + j + 1) (take size (drop start octets))
    → done ++ values_in a (last + j) (drop j ss) (drop start octets) ≡ all
    → (done ++ v ∷ []) ++ values_in a (last + (j + 1)) (drop (j + 1) ss) (drop (start + size + 16) octets) ≡ all
value_more a last j start size ss octets done v all here is so_far =
    let number : last + j + 1 ≡ last + (j + 1) = omega arith in
    let place : start + (size + 16) ≡ start + size + 16 = omega arith in
    append_assoc done (v ∷ []) (values_in a (last + (j + 1)) (drop (j + 1) ss) (drop (start + size + 16) octets))
    ∙ ap (λ (x : List ℕ). done ++ x ∷ values_in a (last + (j + 1)) (drop (j + 1) ss) (drop (start + size + 16) octets)) is
    ∙ ap (λ (n : ℕ). done ++ check_value a (last + j + 1) (take size (drop start octets)) ∷ values_in a n (drop (j + 1) ss) (drop (start + size + 16) octets)) (sym number)
    ∙ ap (λ (xs : List ℕ). done ++ check_value a (last + j + 1) (take size (drop start octets)) ∷ values_in a (last + j + 1) (drop (j + 1) ss) xs)
    (ap (λ (k : ℕ). drop k octets) (sym place) ∙ sym (drop-drop (size + 16) start octets))
    ∙ ap (λ (xs : List ℕ). done ++ values_in a (last + j) xs (drop start octets)) (sym here)
    ∙ so_far

pub take-more : {A : Type 0} (xs : List A) (a m : ℕ) → take (a + m) xs ≡ take a xs ++ take m (drop a xs)
take-more {A} xs a m =
    sym (take-append-drop a (take (a + m) xs))
    ∙ ap (λ (ys : List A). ys ++ drop a (take (a + m) xs)) (take-take a (a + m) xs (omega arith))
    ∙ ap (λ (ys : List A). take a xs ++ ys) (drop-take a m xs)

-- what is asked of one packet
pub task_value : (a : Sa) (last j size start : ℕ) (octets part half value : List ℕ) → value ≡ icv_sha256 a.key (part ++ (if a.extended then half else []))
    → part ≡ take size (drop start octets) → half ≡ big_bytes 4 ((last + 1 + j) / 2 ^ 32) → value ≡ check_value a (last + j + 1) (take size (drop start octets))
task_value a last j size start octets part half value is e_part e_half =
    let number : last + 1 + j ≡ last + j + 1 = omega arith in
    is
    ∙ ap (λ (xs : List ℕ). icv_sha256 a.key (xs ++ (if a.extended then half else []))) e_part
    ∙ ap (λ (h : List ℕ). icv_sha256 a.key (take size (drop start octets) ++ (if a.extended then h else []))) (e_half ∙ ap (λ (n : ℕ). big_bytes 4 (n / 2 ^ 32)) number)

pub task_more : (a : Sa) (last j start size : ℕ) (ss octets : List ℕ) (tasks : List Task) (t : Task) (all : List (List ℕ)) → j < length tasks
    → drop j ss ≡ size ∷ drop (j + 1) ss → icv_of t ≡ check_value a (last + j + 1) (take size (drop start octets))
    → map icv_of (take j tasks) ++ values_in a (last + j) (drop j ss) (drop start octets) ≡ all
    → map icv_of (take (j + 1) (slice_set tasks j t)) ++ values_in a (last + (j + 1)) (drop (j + 1) ss) (drop (start + size + 16) octets) ≡ all
task_more a last j start size ss octets tasks t all within here is so_far =
    ap (λ (ts : List Task). map icv_of ts ++ values_in a (last + (j + 1)) (drop (j + 1) ss) (drop (start + size + 16) octets)) (take_more_set tasks j t within)
    ∙ ap (λ (vs : List (List ℕ)). vs ++ values_in a (last + (j + 1)) (drop (j + 1) ss) (drop (start + size + 16) octets)) (map-append icv_of (take j tasks) (t ∷ []))
    ∙ value_more a last j start size ss octets (map icv_of (take j tasks)) (icv_of t) all here is so_far

-- one half more
pub half_more : (last j : ℕ) (halves : List (List ℕ)) (v : List ℕ) → j < length halves → v ≡ big_bytes 4 ((last + 1 + j) / 2 ^ 32) → AreHighHalves last j halves
    → AreHighHalves last (j + 1) (slice_set halves j v)
half_more last j halves v within is so_far = record {
  each = λ i h. elim (cases_lt i j) [
    | inl below ↦ (let other : i ≢ j = omega arith in get_or-set_other halves j i v [] other ∙ so_far.each i below)
    | inr at ↦
        let same : j ≡ i = omega arith in
        ap (λ (k : ℕ). get_or (slice_set halves j v) k []) (sym same) ∙ get_or-set_same halves j v [] within ∙ is ∙ ap (λ (k : ℕ). big_bytes 4 ((last + 1 + k) / 2 ^ 32)) same
  ];
}

-- parts that were appended, with what stands in the place of the ICV
pub with_zeros : (before front payload pads tail zeros after : List ℕ) → after ≡ before ++ (front ++ (payload ++ (pads ++ (tail ++ (zeros ++ [])))))
    → after ≡ before ++ ((front ++ payload ++ (pads ++ tail)) ++ zeros)
with_zeros before front payload pads tail zeros after is =
    is
    ∙ ap (λ (xs : List ℕ). before ++ (front ++ (payload ++ (pads ++ (tail ++ xs))))) (append-nil zeros)
    ∙ ap (λ (xs : List ℕ). before ++ xs) (
    ap (λ (xs : List ℕ). front ++ (payload ++ xs)) (sym (append_assoc pads tail zeros))
    ∙ sym (append_assoc front payload ((pads ++ tail) ++ zeros))
    ∙ sym (append_assoc (front ++ payload) (pads ++ tail) zeros))

-- a part more is written into a room, right behind what was written so far
part_written : (old done part room after : List ℕ) (place next : ℕ) → length done ≡ place → place + length part ≡ next
    → room ≡ done ++ drop place old → after ≡ take place room ++ part ++ drop (place + length part) room
    → after ≡ (done ++ part) ++ drop next old
part_written old done part room after place next long ends so_far is =
    let front : take place room ≡ done = ap (take place) so_far ∙ take_at done (drop place old) place long in
    let behind : drop place room ≡ drop place old = ap (drop place) so_far ∙ drop_at done (drop place old) place long in
    is
    ∙ ap (λ (xs : List ℕ). xs ++ part ++ drop (place + length part) room) front
    ∙ ap (λ (xs : List ℕ). (done ++ part) ++ xs)
    (sym (drop-drop (length part) place room) ∙ ap (drop (length part)) behind ∙ drop-drop (length part) place old)
    ∙ ap (λ (k : ℕ). (done ++ part) ++ drop k old) ends

-- a packet's parts, written into a room one behind the other
pub packet_written : (old front payload pads tail zeros first second third fourth fifth : List ℕ) (pad : ℕ)
    → length front ≡ 8 → length pads ≡ pad → length tail ≡ 2 → length zeros ≡ 16
    → first ≡ take 0 old ++ front ++ drop (0 + length front) old
    → second ≡ take 8 first ++ payload ++ drop (8 + length payload) first
    → third ≡ take (8 + length payload) second ++ pads ++ drop (8 + length payload + length pads) second
    → fourth ≡ take (8 + length payload + pad) third ++ tail ++ drop (8 + length payload + pad + length tail) third
    → fifth ≡ take (8 + length payload + pad + 2) fourth ++ zeros ++ drop (8 + length payload + pad + 2 + length zeros) fourth
    → fifth ≡ ((front ++ payload ++ (pads ++ tail)) ++ zeros) ++ drop (8 + length payload + pad + 2 + 16) old
packet_written old front payload pads tail zeros first second third fourth fifth pad eight word two sixteen is_first is_second is_third is_fourth is_fifth =
    let n : ℕ = length payload in
    let size_payload : length (front ++ payload) ≡ 8 + n = length-append front payload ∙ omega arith in
    let size_pads : length (front ++ payload ++ pads) ≡ 8 + n + pad = length-append (front ++ payload) pads ∙ omega arith in
    let size_tail : length (front ++ payload ++ pads ++ tail) ≡ 8 + n + pad + 2 = length-append (front ++ payload ++ pads) tail ∙ omega arith in
    let one : first ≡ front ++ drop 8 old = part_written old [] front old first 0 8 refl (omega arith) refl is_first in
    let two_parts : second ≡ (front ++ payload) ++ drop (8 + n) old = part_written old front payload first second 8 (8 + n) eight refl one is_second in
    let three : third ≡ (front ++ payload ++ pads) ++ drop (8 + n + pad) old =
    part_written old (front ++ payload) pads second third (8 + n) (8 + n + pad) size_payload (omega arith) two_parts is_third
    in
    let four : fourth ≡ (front ++ payload ++ pads ++ tail) ++ drop (8 + n + pad + 2) old =
    part_written old (front ++ payload ++ pads) tail third fourth (8 + n + pad) (8 + n + pad + 2) size_pads (omega arith) three is_fourth
    in
    part_written old (front ++ payload ++ pads ++ tail) zeros fourth fifth (8 + n + pad + 2) (8 + n + pad + 2 + 16) size_tail (omega arith) four is_fifth
    ∙ ap (λ (xs : List ℕ). (xs ++ zeros) ++ drop (8 + n + pad + 2 + 16) old) (append_assoc (front ++ payload) pads tail)

-- a packet that is written into a room is laid there
pub laid_in : (old : Sending) (next : ℕ) (payload room : List ℕ) (n pad : ℕ) (new : Sending) (filled : List ℕ)
    → IsReady old payload n pad → length payload + 29 ≤ length room → new ≡ sending old.association n
    → filled ≡ ((head old.association n ++ payload ++ trailer pad next) ++ replicate 16 0) ++ drop (8 + length payload + pad + 2 + 16) room
    → LaysIn old next payload room new filled
laid_in old next payload room n pad new filled ready fits is_new is =
    let a = old.association in
    let k : ℕ = length payload in
    let packet : List ℕ = covered a (old.last + 1) next payload ++ replicate 16 0 in
    let rest : List ℕ = drop (packet_size k) room in
    let whole : filled ≡ packet ++ rest =
    is
    ∙ ap (λ (q : ℕ). ((head a n ++ payload ++ trailer q next) ++ replicate 16 0) ++ drop (8 + k + q + 2 + 16) room) ready.least
    ∙ ap (λ (m : ℕ). (covered a m next payload ++ replicate 16 0) ++ rest) ready.number
    in
    let sixteen = length-replicate {A = ℕ} 16 0 in
    let long : length packet ≡ packet_size k =
    length-append (covered a (old.last + 1) next payload) (replicate 16 0)
    ∙ (let c = length-covered a (old.last + 1) next payload in omega arith)
    in
    let small = pad_small k in
    let left = length-drop (packet_size k) room in
    record {
      lays = record {
        has_number = ready.has_number;
        fits = ready.fits;
        last = is_new ∙ ap (sending a) ready.number;
        appended = ap (take (packet_size k)) whole ∙ take_at packet rest (packet_size k) long;
      };
      behind = record {
        size = ap length whole ∙ length-append packet rest ∙ omega arith;
        rest = ap (drop (packet_size k)) whole ∙ drop_at packet rest (packet_size k) long;
      };
    }

-- one ICV more is written
pub value_written : (j start size k : ℕ) (ss : List ℕ) (vs : List (List ℕ)) (v octets all : List ℕ)
    → k ≡ 16 → drop j ss ≡ size ∷ drop (j + 1) ss → drop j vs ≡ v ∷ drop (j + 1) vs → length v ≡ 16 → start + size + 16 ≤ length octets
    → take start octets ++ with_values (drop j ss) (drop j vs) (drop start octets) ≡ all
    → take (start + size + 16) (put_mid (start + size) k octets v) ++ with_values (drop (j + 1) ss) (drop (j + 1) vs) (drop (start + size + 16) (put_mid (start + size) k octets v)) ≡ all
value_written j start size k ss vs v octets all is here value sixteen within so_far =
    let place : start + (size + 16) ≡ start + size + 16 = omega arith in
    ap (λ (xs : List ℕ). xs ++ with_values (drop (j + 1) ss) (drop (j + 1) vs) (drop (start + size + 16) (put_mid (start + size) k octets v)))
    (take-put_mid (start + size) k octets v (start + size + 16) (omega arith) (omega arith) ∙ ap (λ (xs : List ℕ). xs ++ v) (take-more octets start size))
    ∙ ap (λ (xs : List ℕ). ((take start octets ++ take size (drop start octets)) ++ v) ++ with_values (drop (j + 1) ss) (drop (j + 1) vs) xs)
    (drop-put_mid (start + size) k octets v (start + size + 16) (omega arith) (omega arith) (omega arith) ∙ ap (λ (k : ℕ). drop k octets) (sym place) ∙ sym (drop-drop (size + 16) start octets))
    ∙ ap (λ (xs : List ℕ). xs ++ with_values (drop (j + 1) ss) (drop (j + 1) vs) (drop (size + 16) (drop start octets))) (append_assoc (take start octets) (take size (drop start octets)) v)
    ∙ append_assoc (take start octets) (take size (drop start octets) ++ v) (with_values (drop (j + 1) ss) (drop (j + 1) vs) (drop (size + 16) (drop start octets)))
    ∙ ap (λ (xs : List (List ℕ)). take start octets ++ with_values (size ∷ drop (j + 1) ss) xs (drop start octets)) (sym value)
    ∙ ap (λ (xs : List ℕ). take start octets ++ with_values xs (drop j vs) (drop start octets)) (sym here)
    ∙ so_far

-- nothing is laid yet
pub none_laid : (old : Sending) (next : ℕ) (payloads : List (List ℕ)) (before : List ℕ) → LaysFirst 0 old next payloads before old before
none_laid old next payloads before = record {
  within = omega arith;
  fit = λ i h. absurd (omega arith);
  have_numbers = λ h. absurd (omega arith);
  last = let same : old.last ≡ old.last + 0 = omega arith in ap (sending old.association) same;
  appended = sym (append-nil before);
}

-- one packet more is laid
pub lays_more : (k : ℕ) (old : Sending) (next : ℕ) (payloads : List (List ℕ)) (before between after : List ℕ) (mid new : Sending)
    → LaysFirst k old next payloads before mid between → k < length payloads → Lays mid next (get_or payloads k []) between new after
    → LaysFirst (k + 1) old next payloads before new after
lays_more k old next payloads before between after mid new first within one =
    let a = old.association in
    let p : List ℕ = get_or payloads k [] in
    let here : Lays (sending a (old.last + k)) next p between new after = subst (λ (m : Sending). Lays m next p between new after) first.last one in
    let number : old.last + k + 1 ≡ old.last + (k + 1) = omega arith in
    let count : length (take k payloads) ≡ k = length-take-le k payloads (omega arith) in
    let has = here.has_number in
    record {
      within = omega arith;
      fit = λ i h. elim (cases_lt i k) [
        | inl below ↦ first.fit i below
        | inr last ↦ let same : k ≡ i = omega arith in subst (λ (n : ℕ). FitsPacket (get_or payloads n [])) same here.fits
      ];
      have_numbers = λ h. omega arith;
      last = here.last ∙ ap (sending a) number;
      appended =
          here.appended
          ∙ ap (λ (xs : List ℕ). xs ++ (covered a (old.last + k + 1) next p ++ replicate 16 0)) first.appended
          ∙ append_assoc before (laid a old.last next (take k payloads)) (covered a (old.last + k + 1) next p ++ replicate 16 0)
          ∙ ap (λ (n : ℕ). before ++ (laid a old.last next (take k payloads) ++ (covered a (old.last + n + 1) next p ++ replicate 16 0))) (sym count)
          ∙ ap (λ (xs : List ℕ). before ++ xs) (sym (laid_more a old.last next (take k payloads) p))
          ∙ ap (λ (ps : List (List ℕ)). before ++ laid a old.last next ps) (sym (take_more payloads k [] within));
    }

-- so many octets at most are left to be taken
pub octets_left : (payloads : List (List ℕ)) (k : ℕ) → k < length payloads → most_octets (drop k payloads) ≡ length (get_or payloads k []) + 29 + most_octets (drop (k + 1) payloads)
octets_left payloads k within = ap most_octets (drop_more payloads k [] within)

-- ---- groups

pub drop-payloads : (ps : List (Bor (List ℕ))) (n : ℕ) → payloads_of (drop n ps) ≡ drop n (payloads_of ps)
drop-payloads ps zero = refl
drop-payloads [] (suc n) = refl
drop-payloads (p ∷ ps) (suc n) = drop-payloads ps n

pub take-payloads : (ps : List (Bor (List ℕ))) (n : ℕ) → payloads_of (take n ps) ≡ take n (payloads_of ps)
take-payloads ps n = sym (take-map (λ p. p.now) n ps)

pub or_none : (last n : ℕ) → last < 2 ^ 64 → (1 ≤ n → last + n < 2 ^ 64) → last + n < 2 ^ 64
or_none last n small have = elim (cases_lt n 1) [
  | inl none ↦ omega arith
  | inr some ↦ have some
]

limited : (e : Bool) (n : ℕ) → n < number_limit e → n < 2 ^ 64
limited true n h = h
limited false n h = omega arith

module _ (k : ℕ) (old : Sending) (next : ℕ) (payloads : List (Bor (List ℕ))) (before middle : List ℕ) (mid : Sending) (first : LaysFirst k old next (payloads_of payloads) before mid middle) where
  count : length (take k (payloads_of payloads)) ≡ k
  count = length-take-le k (payloads_of payloads) first.within

  behind : drop (length before) middle ≡ laid old.association old.last next (take k (payloads_of payloads))
  behind = ap (drop (length before)) first.appended ∙ drop_at before (laid old.association old.last next (take k (payloads_of payloads))) (length before) refl

  their_sizes : covered_sizes (take k payloads) ≡ sizes (take k (payloads_of payloads))
  their_sizes = sizes_are (take k payloads) ∙ ap sizes (take-payloads payloads k)

  pub group_fit : (i : ℕ) → i < length (take k payloads) → FitsPacket (get_or (payloads_of (take k payloads)) i [])
  group_fit i h =
      let small : i < k = omega (arith, count, ap length (take-payloads payloads k), length-map (take k payloads) (λ p. p.now)) in
      subst FitsPacket (sym (ap (λ (ps : List (List ℕ)). get_or ps i []) (take-payloads payloads k) ∙ get_or-take k (payloads_of payloads) i [] small)) (first.fit i small)

  -- the sequence numbers of a group have 64 bits
  pub group_numbers : (last : ℕ) → last ≡ old.last → 1 ≤ length (take k payloads) → last + length (take k payloads) < 2 ^ 64
  group_numbers last is some =
      let long : length (take k payloads) ≡ k = sym (length-map (take k payloads) (λ p. p.now)) ∙ ap length (take-payloads payloads k) ∙ count in
      let below = limited old.association.extended (old.last + k) (first.have_numbers (omega arith)) in
      omega arith

  pub group_size : packets_size (covered_sizes (take k payloads)) ≤ length (drop (length before) middle)
  group_size =
      let same : packets_size (covered_sizes (take k payloads)) ≡ length (drop (length before) middle) =
      ap packets_size their_sizes ∙ laid_size old.association old.last next (take k (payloads_of payloads)) ∙ ap length (sym behind)
      in
      omega arith

  pub group_sealed : (after : List ℕ)
      → after ≡ before ++ with_values (covered_sizes (take k payloads)) (values_in mid.association old.last (covered_sizes (take k payloads)) (drop (length before) middle)) (drop (length before) middle)
      → SealsFirst k old next (payloads_of payloads) before mid after
  group_sealed after is =
      let a = old.association in
      let ps : List (List ℕ) = take k (payloads_of payloads) in
      let octets : List ℕ = laid a old.last next ps in
      let ends : mid.association ≡ a = ap (λ (m : Sending). m.association) first.last in
      let run : SealRun old next ps before (sending a (old.last + k)) (before ++ with_values (sizes ps) (values_in a old.last (sizes ps) octets) octets) =
      with_check_values a old.last next ps before k (sym count) (λ i h. subst FitsPacket (sym (get_or-take k (payloads_of payloads) i [] h)) (first.fit i h)) first.have_numbers
      in
      let same : after ≡ before ++ with_values (sizes ps) (values_in a old.last (sizes ps) octets) octets =
      is
      ∙ ap (λ (x : Sa). before ++ with_values (covered_sizes (take k payloads)) (values_in x old.last (covered_sizes (take k payloads)) (drop (length before) middle)) (drop (length before) middle)) ends
      ∙ ap (λ (xs : List ℕ). before ++ with_values xs (values_in a old.last xs (drop (length before) middle)) (drop (length before) middle)) their_sizes
      ∙ ap (λ (xs : List ℕ). before ++ with_values (sizes ps) (values_in a old.last (sizes ps) xs) xs) behind
      in
      record {
        within = first.within;
        run = subst (λ (xs : List ℕ). SealRun old next ps before mid xs) (sym same)
            (subst (λ (m : Sending). SealRun old next ps before m (before ++ with_values (sizes ps) (values_in a old.last (sizes ps) octets) octets)) (sym first.last) run);
        last = first.last;
      }

-- nothing is sealed yet
pub none_sealed : (old : Sending) (next : ℕ) (payloads : List (List ℕ)) (before : List ℕ) → SealsFirst 0 old next payloads before old before
none_sealed old next payloads before = record {
  within = omega arith;
  run = (refl, refl);
  last = let same : old.last ≡ old.last + 0 = omega arith in ap (sending old.association) same;
}

-- some more are sealed
pub seals_more : (m size k : ℕ) (old : Sending) (next : ℕ) (payloads : List (List ℕ)) (before between after : List ℕ) (mid new : Sending)
    → SealsFirst m old next payloads before mid between → m + size ≤ length payloads → SealsFirst k mid next (take size (drop m payloads)) between new after
    → SealsFirst (m + k) old next payloads before new after
seals_more m size k old next payloads before between after mid new first fits second =
    let group : length (take size (drop m payloads)) ≡ size = length-take-le size (drop m payloads) (omega (arith, length-drop m payloads)) in
    let small : k ≤ size = let w = second.within in omega arith in
    let parts : take m payloads ++ take k (take size (drop m payloads)) ≡ take (m + k) payloads =
    ap (λ (ps : List (List ℕ)). take m payloads ++ ps) (take-take k size (drop m payloads) small) ∙ sym (take-more payloads m k)
    in
    let number : old.last + m + k ≡ old.last + (m + k) = omega arith in
    record {
      within = omega arith;
      run = subst (λ (ps : List (List ℕ)). SealRun old next ps before new after) parts
          (seal_run_joined old next (take m payloads) (take k (take size (drop m payloads))) before between after mid new first.run second.run);
      last = second.last ∙ ap (λ (s : Sending). record s { last = s.last + k }) first.last ∙ ap (sending old.association) number;
    }

-- a group's packets, written back behind what stood before them
pub group_whole : (start len : ℕ) (before middle xs ys front : List ℕ) (ss : List ℕ) (a : Sa) (last : ℕ)
    → start ≡ length before → xs ≡ middle → len ≡ length middle → middle ≡ before ++ front → length ys ≡ length (take (length xs - start) (drop start xs))
    → ys ≡ with_values ss (values_in a last ss (take (length xs - start) (drop start xs))) (take (length xs - start) (drop start xs))
    → take len (put_mid start (length xs - start) xs ys ++ drop (length (put_mid start (length xs - start) xs ys)) middle)
    ≡ before ++ with_values ss (values_in a last ss (drop (length before) middle)) (drop (length before) middle)
group_whole start len before middle xs ys front ss a last e_start e_xs e_len e_mid e_size is =
    let rest : List ℕ = drop (length before) middle in
    let whole : List ℕ = put_mid start (length xs - start) xs ys in
    let n : ℕ = start + length ys in
    let part : take (length xs - start) (drop start xs) ≡ rest = take_rest xs start ∙ ap (λ (k : ℕ). drop k xs) e_start ∙ ap (drop (length before)) e_xs in
    let long_middle : length middle ≡ length before + length front = ap length e_mid ∙ length-append before front in
    let long_xs : length xs ≡ length middle = ap length e_xs in
    let long_rest : length rest ≡ length middle - length before = length-drop (length before) middle in
    let long_ys : length ys ≡ length rest = e_size ∙ ap length part in
    let begins : take start xs ≡ before = ap (λ (k : ℕ). take k xs) e_start ∙ ap (take (length before)) (e_xs ∙ e_mid) ∙ take_at before front (length before) refl in
    let is_whole : whole ≡ before ++ ys =
    sym (take-append-drop n whole)
    ∙ ap (λ (zs : List ℕ). zs ++ drop n whole) (take-put_mid start (length xs - start) xs ys n refl (omega arith))
    ∙ ap (λ (zs : List ℕ). (take start xs ++ ys) ++ zs) (drop-put_mid start (length xs - start) xs ys n (omega arith) (omega arith) (omega arith) ∙ drop_all n xs (omega arith))
    ∙ append-nil (take start xs ++ ys)
    ∙ ap (λ (zs : List ℕ). zs ++ ys) begins
    in
    let long : length whole ≡ length middle = ap length is_whole ∙ length-append before ys ∙ omega arith in
    ap (λ (zs : List ℕ). take len (whole ++ zs)) (drop_all (length whole) middle (omega arith))
    ∙ ap (take len) (append-nil whole)
    ∙ take_all len whole (omega arith)
    ∙ is_whole
    ∙ ap (λ (zs : List ℕ). before ++ zs) (is ∙ ap (λ (zs : List ℕ). with_values ss (values_in a last ss zs) zs) part)
