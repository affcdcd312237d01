-- The words of blocks, from vectors of their octets.
use Rattle.std.proofs.Common.{◌≡◌, ℕ, zero, suc, ◌+◌, ◌*◌, ◌^◌, ◌<◌, ◌≤◌, List, [], ◌∷◌, ◌++◌, length, take, drop, slice_index, slice_index_or, refl, sym, ap, ◌∙◌, arith, Fits, w8, w32}
use Rattle.std.proofs.lemmas.List.{get_or_append_left, get_or-append-add}
use Rattle.std.proofs.lemmas.Simd.{get_or_wider, get_or-chunk, length-chunk, pick_l_left, below_from_Fits}
use Rattle.std.specs.Borrow.{Bor}
use Rattle.std.specs.Int.{from_be_bytes}
use lib.Lanes.{Each1, chunk, pick_l, number_l, digits_l}
use Rattle.sha2.specs.Sha256.{word_at}
use Rattle.lanes.specs.Blocks.{block_in, four_words}
use Rattle.lanes.specs.Lane.{lane}
use Rattle.lanes.proofs.LaneLemmas.{apart}

-- the block that a reference names
pub block_at : (blocks : List (Bor (List ℕ))) (j : ℕ) → (slice_index_or blocks j (record { ref_ptr = (0, 0); now = [] })).now ≡ block_in blocks j
block_at [] zero = refl
block_at [] (suc j) = refl
block_at (b ∷ blocks) zero = refl
block_at (b ∷ blocks) (suc j) = block_at blocks j

-- ---- octets as words

-- the octets of each word, the last one first
abbrev pub turned_places : List ℕ
turned_places = 3 ∷ 2 ∷ 1 ∷ 0 ∷ 7 ∷ 6 ∷ 5 ∷ 4 ∷ 11 ∷ 10 ∷ 9 ∷ 8 ∷ 15 ∷ 14 ∷ 13 ∷ 12 ∷ 19 ∷ 18 ∷ 17 ∷ 16 ∷ 23 ∷ 22 ∷ 21 ∷ 20 ∷ 27 ∷ 26 ∷ 25 ∷ 24 ∷ 31 ∷ 30 ∷ 29 ∷ 28 ∷ []

abbrev pub turned_round : List ℕ → List ℕ
turned_round octets = pick_l 0 octets turned_places

at-Each1 : (P : ℕ → Type 0) (xs : List ℕ) (k : ℕ) → P 0 → Each1 P xs → P (slice_index xs k)
at-Each1 P [] zero none each = none
at-Each1 P [] (suc k) none each = none
at-Each1 P (x ∷ xs) zero none each = each.0
at-Each1 P (x ∷ xs) (suc k) none each = at-Each1 P xs k none each.1

pick-Each1 : (P : ℕ → Type 0) (xs ks : List ℕ) → P 0 → Each1 P xs → Each1 P (pick_l 0 xs ks)
pick-Each1 P xs [] none each = tt
pick-Each1 P xs (k ∷ ks) none each = (at-Each1 P xs k none each, pick-Each1 P xs ks none each)

word_is : (a b c d : ℕ) → d + 256 * (c + 256 * (b + 256 * (a + 256 * 0))) ≡ from_be_bytes w32 (a ∷ b ∷ c ∷ d ∷ [])
word_is a b c d = omega arith

pub words_are : (octets : List ℕ) → length octets ≡ 32 → Each1 (Fits w8) octets →
    digits_l (2 ^ 32) 8 (number_l 256 (pick_l 0 (octets ++ octets) turned_places)) ≡ four_words octets 0 ++ four_words octets 16
words_are octets long fit =
    let below : Each1 (λ x. x < 256) (turned_round octets) = pick-Each1 (λ x. x < 256) octets turned_places (omega arith) (below_from_Fits w8 octets fit) in
    let at = λ (j : ℕ) (within : j < 8). get_or_wider 256 4 (2 ^ 32) 8 (turned_round octets) j refl below within in
    let o = λ (k : ℕ). slice_index octets k in
    ap (λ l. digits_l (2 ^ 32) 8 (number_l 256 l)) (pick_l_left 0 octets octets 32 turned_places long tt)
    ∙ (λ i. (at 0 (omega arith) ∙ word_is (o 0) (o 1) (o 2) (o 3)) i ∷ (at 1 (omega arith) ∙ word_is (o 4) (o 5) (o 6) (o 7)) i
    ∷ (at 2 (omega arith) ∙ word_is (o 8) (o 9) (o 10) (o 11)) i ∷ (at 3 (omega arith) ∙ word_is (o 12) (o 13) (o 14) (o 15)) i
    ∷ (at 4 (omega arith) ∙ word_is (o 16) (o 17) (o 18) (o 19)) i ∷ (at 5 (omega arith) ∙ word_is (o 20) (o 21) (o 22) (o 23)) i
    ∷ (at 6 (omega arith) ∙ word_is (o 24) (o 25) (o 26) (o 27)) i ∷ (at 7 (omega arith) ∙ word_is (o 28) (o 29) (o 30) (o 31)) i ∷ [])

-- ---- a part of one block and a part of another

octet_low : (low high : List ℕ) (at k : ℕ) → at + 16 ≤ length low → k < 16 → slice_index (chunk at 16 low ++ high) k ≡ slice_index low (at + k)
octet_low low high at k fits within =
    get_or_append_left (chunk at 16 low) high 0 k (omega (arith, length-chunk at 16 low fits)) ∙ get_or-chunk at 16 low k 0 within

octet_high : (low high : List ℕ) (at k : ℕ) → length low ≡ 16 → at + 16 ≤ length high → k < 16 → slice_index (low ++ chunk at 16 high) (16 + k) ≡ slice_index high (at + k)
octet_high low high at k long fits within =
    let here : 16 + k ≡ length low + k = omega arith in
    ap (λ n. slice_index (low ++ chunk at 16 high) n) here ∙ get_or-append-add low (chunk at 16 high) k 0 ∙ get_or-chunk at 16 high k 0 within

word_low : (low high : List ℕ) (at k : ℕ) → at + 16 ≤ length low → k + 4 ≤ 16 → word_at (chunk at 16 low ++ high) k ≡ word_at low (at + k)
word_low low high at k fits within =
    let o = λ (n m : ℕ) (is : m ≡ at + n) (n_within : n < 16). octet_low low high at n fits n_within ∙ ap (slice_index low) (sym is) in
    λ i. from_be_bytes w32 (o k (at + k) refl (omega arith) i ∷ o (k + 1) (at + k + 1) (omega arith) (omega arith) i ∷ o (k + 2) (at + k + 2) (omega arith) (omega arith) i ∷ o (k + 3) (at + k + 3) (omega arith) (omega arith) i ∷ [])

word_high : (low high : List ℕ) (at k : ℕ) → length low ≡ 16 → at + 16 ≤ length high → k + 4 ≤ 16 → word_at (low ++ chunk at 16 high) (16 + k) ≡ word_at high (at + k)
word_high low high at k long fits within =
    let both = low ++ chunk at 16 high in
    let o = λ (n p m : ℕ) (from : p ≡ 16 + n) (is : m ≡ at + n) (n_within : n < 16).
    ap (slice_index both) from ∙ octet_high low high at n long fits n_within ∙ ap (slice_index high) (sym is) in
    λ i. from_be_bytes w32 (o k (16 + k) (at + k) refl refl (omega arith) i ∷ o (k + 1) (16 + k + 1) (at + k + 1) (omega arith) (omega arith) (omega arith) i
    ∷ o (k + 2) (16 + k + 2) (at + k + 2) (omega arith) (omega arith) (omega arith) i ∷ o (k + 3) (16 + k + 3) (at + k + 3) (omega arith) (omega arith) (omega arith) i ∷ [])

pub pair_is : (low high : List ℕ) (at : ℕ) → at + 16 ≤ length low → at + 16 ≤ length high →
    four_words (chunk at 16 low ++ chunk at 16 high) 0 ++ four_words (chunk at 16 low ++ chunk at 16 high) 16 ≡ four_words low at ++ four_words high at
pair_is low high at fits_low fits_high =
    let long : length (chunk at 16 low) ≡ 16 = length-chunk at 16 low fits_low in
    let same : at + 0 ≡ at = omega arith in
    let l = λ (k : ℕ) (within : k + 4 ≤ 16). word_low low (chunk at 16 high) at k fits_low within in
    let h = λ (k : ℕ) (within : k + 4 ≤ 16). word_high (chunk at 16 low) high at k long fits_high within in
    λ i. (l 0 (omega arith) ∙ ap (word_at low) same) i ∷ l 4 (omega arith) i ∷ l 8 (omega arith) i ∷ l 12 (omega arith) i
    ∷ (h 0 (omega arith) ∙ ap (word_at high) same) i ∷ h 4 (omega arith) i ∷ h 8 (omega arith) i ∷ h 12 (omega arith) i ∷ []

-- ---- four words of each of eight blocks

-- four vectors, of the first two words of each and the last two, and then of each word
abbrev pub transposed : List ℕ → List ℕ → List ℕ → List ℕ → List (List ℕ)
transposed a b c d =
    let ab_low = pick_l 0 (a ++ b) (0 ∷ 8 ∷ 1 ∷ 9 ∷ 4 ∷ 12 ∷ 5 ∷ 13 ∷ []) in
    let ab_high = pick_l 0 (a ++ b) (2 ∷ 10 ∷ 3 ∷ 11 ∷ 6 ∷ 14 ∷ 7 ∷ 15 ∷ []) in
    let cd_low = pick_l 0 (c ++ d) (0 ∷ 8 ∷ 1 ∷ 9 ∷ 4 ∷ 12 ∷ 5 ∷ 13 ∷ []) in
    let cd_high = pick_l 0 (c ++ d) (2 ∷ 10 ∷ 3 ∷ 11 ∷ 6 ∷ 14 ∷ 7 ∷ 15 ∷ []) in
    pick_l 0 (ab_low ++ cd_low) (0 ∷ 1 ∷ 8 ∷ 9 ∷ 4 ∷ 5 ∷ 12 ∷ 13 ∷ []) ∷ pick_l 0 (ab_low ++ cd_low) (2 ∷ 3 ∷ 10 ∷ 11 ∷ 6 ∷ 7 ∷ 14 ∷ 15 ∷ [])
    ∷ pick_l 0 (ab_high ++ cd_high) (0 ∷ 1 ∷ 8 ∷ 9 ∷ 4 ∷ 5 ∷ 12 ∷ 13 ∷ []) ∷ pick_l 0 (ab_high ++ cd_high) (2 ∷ 3 ∷ 10 ∷ 11 ∷ 6 ∷ 7 ∷ 14 ∷ 15 ∷ []) ∷ []

pub each_of_four : (P : ℕ → Type 0) → P 0 → P 1 → P 2 → P 3 → (j : ℕ) → j < 4 → P j
each_of_four P a b c d zero fits = a
each_of_four P a b c d (suc zero) fits = b
each_of_four P a b c d (suc (suc zero)) fits = c
each_of_four P a b c d (suc (suc (suc zero))) fits = d
each_of_four P a b c d (suc (suc (suc (suc j)))) fits = absurd (omega arith)

pub transposed_low : (a b c d : List ℕ) → length a ≡ 8 → length b ≡ 8 → length c ≡ 8 → length d ≡ 8 →
    (j : ℕ) → j < 4 → lane j (transposed a b c d) ≡ take 4 (slice_index_or (a ∷ b ∷ c ∷ d ∷ []) j [])
transposed_low a b c d la lb lc ld = each_of_four (λ j. lane j (transposed a b c d) ≡ take 4 (slice_index_or (a ∷ b ∷ c ∷ d ∷ []) j []))
    (rw (apart a la) refl)
    (rw (apart a la, apart b lb) refl)
    (rw (apart c lc) refl)
    (rw (apart c lc, apart d ld) refl)

pub transposed_high : (a b c d : List ℕ) → length a ≡ 8 → length b ≡ 8 → length c ≡ 8 → length d ≡ 8 →
    (j : ℕ) → j < 4 → lane (4 + j) (transposed a b c d) ≡ drop 4 (slice_index_or (a ∷ b ∷ c ∷ d ∷ []) j [])
transposed_high a b c d la lb lc ld = each_of_four (λ j. lane (4 + j) (transposed a b c d) ≡ drop 4 (slice_index_or (a ∷ b ∷ c ∷ d ∷ []) j []))
    (rw (apart a la) refl)
    (rw (apart a la, apart b lb) refl)
    (rw (apart c lc) refl)
    (rw (apart c lc, apart d ld) refl)
