-- The blocks of a message: where each stands, and that they are the message with its padding.
use Rattle.std.proofs.Common.{◌≡◌, ℕ, ◌+◌, ◌-◌, ◌*◌, ◌/◌, ◌%◌, ◌^◌, ◌<◌, ◌≤◌, List, [], ◌∷◌, ◌++◌, length, take, drop, replicate, refl, sym, ap, ◌∙◌, inl, inr, arith, append_assoc, length-append, length-drop, length-take}
use Rattle.std.proofs.lemmas.List.{take_at, drop_at, drop-replicate, drop-take, take-take, take-append-le, drop-append-le, take-append-drop, replicate-append-replicate, length-take-le}
use Rattle.std.proofs.lemmas.Simd.{length-replicate}
use Rattle.std.proofs.Math.Seq.{drop-append-add, take-append-add}
use Rattle.std.specs.Int.{w64, to_be_bytes}
use Rattle.std.proofs.lemmas.Bool.{cases_lt}
use borrow.Rule.Slice.PartMut.{put_mid}
use Rattle.sha2.specs.Sha256.{padding}
use Rattle.lanes.specs.Padding.{IsEndLen, after_a_block, filled, padded_to}

-- octets put behind those that were put before
pub put-filled : (before octets : List ℕ) (at size : ℕ) → length before ≡ at → size ≡ length octets →
    put_mid at size (filled before) octets ≡ filled (before ++ octets)
put-filled before octets at size is long =
    let zeros : List ℕ = replicate (128 - length before) 0 in
    let left : 128 - length before - size ≡ 128 - length (before ++ octets) = omega (arith, length-append before octets) in
    rw (take_at before zeros at is, drop_at before zeros at is, drop-replicate {X = ℕ} size (128 - length before) 0, left)
    (sym (append_assoc before octets _))

-- zeros may be counted among the octets
pub filled-zeros : (octets : List ℕ) (count : ℕ) → length octets + count ≤ 128 → filled octets ≡ filled (octets ++ replicate count 0)
filled-zeros octets count fits =
    let rest : ℕ = 128 - length (octets ++ replicate count 0) in
    let whole : 128 - length octets ≡ count + rest = omega (arith, length-append octets (replicate count 0), length-replicate {A = ℕ} count 0) in
    ap (λ (n : ℕ). octets ++ replicate n 0) whole
    ∙ ap (λ (l : List ℕ). octets ++ l) (sym (replicate-append-replicate {A = ℕ} count rest 0))
    ∙ sym (append_assoc octets (replicate count 0) (replicate rest 0))

pub length-filled : (octets : List ℕ) → length octets ≤ 128 → length (filled octets) ≡ 128
length-filled octets fits = omega (arith, length-append octets (replicate (128 - length octets) 0), length-replicate {A = ℕ} (128 - length octets) 0)

pub length-padded_to : (size bits : ℕ) (octets : List ℕ) → length octets + 9 ≤ size → length (padded_to size bits octets) ≡ size
length-padded_to size bits octets fits =
    let n = size - (length octets + 9) in
    omega (arith, length-append octets (0x80 ∷ replicate n 0 ++ to_be_bytes w64 bits), length-append (replicate n 0) (to_be_bytes w64 bits), length-replicate {A = ℕ} n 0)

-- the octets after the last whole block, a bit, zeros and the length
pub ending-is : (rest more : List ℕ) (size bits : ℕ) (length_field first second third fourth : List ℕ) → length rest + length more + 9 ≤ size → size ≤ 128
    → first ≡ filled rest → ((before : List ℕ) → length before ≡ length rest → first ≡ filled before → second ≡ filled (before ++ more))
    → ((before : List ℕ) → length before ≡ length rest + length more → second ≡ filled before → third ≡ filled (before ++ 0x80 ∷ []))
    → ((before : List ℕ) → length before ≡ size - 8 → third ≡ filled before → fourth ≡ filled (before ++ length_field)) → length_field ≡ to_be_bytes w64 bits
    → fourth ≡ filled (padded_to size bits (rest ++ more))
ending-is rest more size bits length_field first second third fourth room most one two three four is =
    let used = length-append rest more in
    let n : ℕ = size - (length (rest ++ more) + 9) in
    let marked : List ℕ = (rest ++ more) ++ 0x80 ∷ [] in
    let length-marked = length-append (rest ++ more) (0x80 ∷ []) in
    let s2 = two rest refl one in
    let s3 = three (rest ++ more) used s2 in
    let s4 = four (marked ++ replicate n 0) (omega (arith, length-append marked (replicate n 0), length-replicate {A = ℕ} n 0))
    (s3 ∙ filled-zeros marked n (omega arith)) in
    let regrouped : (marked ++ replicate n 0) ++ to_be_bytes w64 bits ≡ padded_to size bits (rest ++ more) =
    append_assoc marked (replicate n 0) (to_be_bytes w64 bits) ∙ append_assoc (rest ++ more) (0x80 ∷ []) (replicate n 0 ++ to_be_bytes w64 bits) in
    s4 ∙ ap (λ (l : List ℕ). filled ((marked ++ replicate n 0) ++ l)) is ∙ ap filled regrouped

-- ---- a message that was made

-- the octets of the padding are those that fill the last block
pub zeros_of_padding : (octets more : List ℕ) (size : ℕ) → length more ≤ 56 → IsEndLen (length octets % 64 + length more) size
    → (119 - (64 + length (octets ++ more)) % 64) % 64 ≡ size - (length octets % 64 + length more + 9)
zeros_of_padding octets more size few ends =
    let both = length-append octets more in
    elim (cases_lt (length octets % 64 + length more) 56) [
      | inl small ↦ (let is = ends.one small in omega arith)
      | inr large ↦ (let is = ends.two large in omega arith)
    ]

pub end_len-cases : (used size : ℕ) → IsEndLen used size → used < 120 → (used + 9 ≤ size) × (size ≤ 128) × (size / 64 * 64 ≡ size)
end_len-cases used size ends few = elim (cases_lt used 56) [
  | inl small ↦ (let is = ends.one small in (omega arith, omega arith, omega arith))
  | inr large ↦ (let is = ends.two large in (omega arith, omega arith, omega arith))
]

pub padded-is : (octets more rest : List ℕ) (size : ℕ) → length more ≤ 56 → rest ≡ drop (length octets / 64 * 64) octets → IsEndLen (length rest + length more) size
    → take (length octets / 64 * 64) octets ++ padded_to size ((64 + length octets + length more) * 8 % 2 ^ 64) (rest ++ more) ≡ after_a_block (octets ++ more)
padded-is octets more rest size few is ends =
    let w : ℕ = length octets / 64 * 64 in
    let left : length rest ≡ length octets % 64 = ap length is ∙ length-drop w octets ∙ omega arith in
    let both = length-append rest more in
    let total : 64 + length octets + length more ≡ 64 + length (octets ++ more) = omega (arith, length-append octets more) in
    let ends_at : IsEndLen (length octets % 64 + length more) size = rw (← left) ends in
    let zeros : size - (length (rest ++ more) + 9) ≡ (119 - (64 + length (octets ++ more)) % 64) % 64 =
    omega (arith, zeros_of_padding octets more size few ends_at) in
    let front : take w octets ++ (rest ++ more) ≡ octets ++ more =
    sym (append_assoc (take w octets) rest more) ∙ ap (λ (l : List ℕ). (take w octets ++ l) ++ more) is ∙ ap (λ (l : List ℕ). l ++ more) (take-append-drop w octets) in
    rw (zeros, total) (sym (append_assoc (take w octets) (rest ++ more) _) ∙ ap (λ (l : List ℕ). l ++ padding (64 + length (octets ++ more))) front)

pub made : (octets more rest end : List ℕ) (size : ℕ) → length more ≤ 56 → rest ≡ drop (length octets / 64 * 64) octets → IsEndLen (length rest + length more) size
    → end ≡ filled (padded_to size ((64 + length octets + length more) * 8 % 2 ^ 64) (rest ++ more))
    → (length end ≡ 128) × (length (after_a_block (octets ++ more)) ≡ (length octets / 64 + size / 64) * 64)
    × (take ((length octets / 64 + size / 64) * 64) (take (length octets / 64 * 64) octets ++ end) ≡ after_a_block (octets ++ more))
made octets more rest end size few is ends filled_is =
    let w : ℕ = length octets / 64 * 64 in
    let bits : ℕ = (64 + length octets + length more) * 8 % 2 ^ 64 in
    let left : length rest ≡ length octets % 64 = ap length is ∙ length-drop w octets ∙ omega arith in
    let both = length-append rest more in
    let fits = end_len-cases (length rest + length more) size ends (omega arith) in
    let whole : size / 64 * 64 ≡ size = fits.2 in
    let tail : List ℕ = padded_to size bits (rest ++ more) in
    let long : length tail ≡ size = length-padded_to size bits (rest ++ more) (omega (arith, fits.0)) in
    let front : length (take w octets) ≡ w = length-take-le w octets (omega arith) in
    let is_all = padded-is octets more rest size few is ends in
    let split : (length octets / 64 + size / 64) * 64 ≡ length (take w octets) + size = omega arith in (
      ap length filled_is ∙ length-filled tail (omega (arith, fits.1)),
      sym (ap length is_all) ∙ length-append (take w octets) tail ∙ omega arith,
      ap (λ n. take n (take w octets ++ end)) split ∙ take-append-add (take w octets) end size
          ∙ ap (λ (l : List ℕ). take w octets ++ take size l) filled_is
          ∙ ap (λ (l : List ℕ). take w octets ++ l) (take_at tail _ size long)
          ∙ is_all,
    )

-- ---- a block of a message

-- a block of the first blocks
pub block_of_first : (xs : List ℕ) (count i : ℕ) → i < count → take 64 (drop (i * 64) (take (count * 64) xs)) ≡ take 64 (drop (i * 64) xs)
block_of_first xs count i below =
    let n : count * 64 ≡ i * 64 + (count * 64 - i * 64) = omega arith in
    ap (λ m. take 64 (drop (i * 64) (take m xs))) n
    ∙ ap (λ (l : List ℕ). take 64 l) (drop-take (i * 64) (count * 64 - i * 64) xs)
    ∙ take-take 64 (count * 64 - i * 64) (drop (i * 64) xs) (omega arith)

pub block_in_octets : (octets end blocks : List ℕ) (count i : ℕ) → take (count * 64) (take (length octets / 64 * 64) octets ++ end) ≡ blocks
    → i < count → i < length octets / 64 → take 64 (drop (i * 64) octets) ≡ take 64 (drop (i * 64) blocks)
block_in_octets octets end blocks count i are below inside =
    let w : ℕ = length octets / 64 * 64 in
    let front : length (take w octets) ≡ w = length-take-le w octets (omega arith) in
    let rest = drop (i * 64) (take w octets) in
    let fits : 64 ≤ length rest = omega (arith, length-drop (i * 64) (take w octets)) in
    sym (block_of_first octets (length octets / 64) i inside)
    ∙ sym (take-append-le 64 rest end fits)
    ∙ ap (λ (l : List ℕ). take 64 l) (sym (drop-append-le (i * 64) (take w octets) end (omega arith)))
    ∙ sym (block_of_first (take w octets ++ end) count i below)
    ∙ ap (λ (l : List ℕ). take 64 (drop (i * 64) l)) are

pub block_at_end : (octets end blocks : List ℕ) (count i : ℕ) → take (count * 64) (take (length octets / 64 * 64) octets ++ end) ≡ blocks
    → i < count → i ≡ length octets / 64 → take 64 end ≡ take 64 (drop (i * 64) blocks)
block_at_end octets end blocks count i are below here =
    let w : ℕ = length octets / 64 * 64 in
    let front : length (take w octets) ≡ i * 64 = length-take-le w octets (omega arith) ∙ omega arith in
    ap (λ (l : List ℕ). take 64 l) (sym (drop_at (take w octets) end (i * 64) front))
    ∙ sym (block_of_first (take w octets ++ end) count i below)
    ∙ ap (λ (l : List ℕ). take 64 (drop (i * 64) l)) are

pub block_after_end : (octets end blocks : List ℕ) (count i : ℕ) → length end ≡ 128 → length blocks ≡ count * 64
    → take (count * 64) (take (length octets / 64 * 64) octets ++ end) ≡ blocks
    → i < count → length octets / 64 < i → take 64 (drop 64 end) ≡ take 64 (drop (i * 64) blocks)
block_after_end octets end blocks count i room long are below past =
    let w : ℕ = length octets / 64 * 64 in
    let front : length (take w octets) ≡ w = length-take-le w octets (omega arith) in
    let all = take w octets ++ end in
    let most : count * 64 ≤ length all = omega (arith, ap length are, length-take (count * 64) all) in
    let here : i * 64 ≡ length (take w octets) + 64 = omega (arith, length-append (take w octets) end) in
    ap (λ (l : List ℕ). take 64 l) (sym (ap (λ n. drop n all) here ∙ drop-append-add (take w octets) end 64))
    ∙ sym (block_of_first all count i below)
    ∙ ap (λ (l : List ℕ). take 64 (drop (i * 64) l)) are
