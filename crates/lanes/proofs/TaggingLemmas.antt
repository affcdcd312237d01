-- A tag in a lane: the inner hash behind its pad, and the outer hash, which is one block behind its own.
use Rattle.std.proofs.Common.{◌≡◌, ℕ, zero, suc, ◌+◌, ◌-◌, ◌*◌, ◌/◌, ◌%◌, ◌^◌, ◌<◌, ◌≤◌, List, [], ◌∷◌, ◌++◌, length, take, drop, replicate, slice_index, refl, sym, ap, ◌∙◌, arith, append_assoc, length-append, add-one}
use Rattle.std.proofs.lemmas.List.{length-map, take_all, take_at}
use Rattle.std.proofs.lemmas.Bool.Decides.{nat_tests}
use Rattle.std.proofs.lemmas.Nat.{from_be_bytes-to_be_bytes_4}
use Rattle.std.proofs.lemmas.Simd.{length-replicate}
use Rattle.std.proofs.Math.Seq.{drop-append-add}
use Rattle.sha2.specs.Sha256.{add_state, compress, digest_bytes, final_hash, first_words, hash_after, initial_hash_256, padded_message, padding, rounds, schedule, sha256}
use Rattle.sha2.proofs.Facts256.{length-sha256}
use Rattle.std.specs.Int.{w64, to_be_bytes}
use Rattle.mac.specs.Hmac.{hmac_block, hmac_sha256, pad_with, short_key}
use Rattle.lanes.specs.Key.{HasStates, state_behind}
use Rattle.lanes.specs.Padding.{after_a_block}

-- ---- the words of a state

add_state-below : (h v : List ℕ) (k : ℕ) → slice_index (add_state h v) k < 2 ^ 32
add_state-below h v zero = omega arith
add_state-below h v (suc zero) = omega arith
add_state-below h v (suc (suc zero)) = omega arith
add_state-below h v (suc (suc (suc zero))) = omega arith
add_state-below h v (suc (suc (suc (suc zero)))) = omega arith
add_state-below h v (suc (suc (suc (suc (suc zero))))) = omega arith
add_state-below h v (suc (suc (suc (suc (suc (suc zero)))))) = omega arith
add_state-below h v (suc (suc (suc (suc (suc (suc (suc zero))))))) = omega arith
add_state-below h v (suc (suc (suc (suc (suc (suc (suc (suc k)))))))) = omega arith

compress-below : (h b : List ℕ) (k : ℕ) → slice_index (compress h b) k < 2 ^ 32
unfolding compress
compress-below h b k = add_state-below h (rounds h (schedule b 48) 64) k

-- each word of a state behind a block is a word
pub hash_after-below : (start octets : List ℕ) (n k : ℕ) → slice_index (hash_after start octets (n + 1)) k < 2 ^ 32
unfolding hash_after
hash_after-below start octets n k = rw add-one (compress-below (hash_after start octets n) (take 64 (drop (n * 64) octets)) k)

-- the words of a digest and the padding behind it are the words of its state, a bit, zeros and the length
pub outer_words-is : (h : List ℕ) → ((k : ℕ) → slice_index h k < 2 ^ 32) →
    slice_index h 0 ∷ slice_index h 1 ∷ slice_index h 2 ∷ slice_index h 3 ∷ slice_index h 4 ∷ slice_index h 5 ∷ slice_index h 6 ∷ slice_index h 7 ∷ 0x8000_0000 ∷ 0 ∷ 0 ∷ 0 ∷ 0 ∷ 0 ∷ 0 ∷ 768 ∷ [] ≡ first_words (digest_bytes h 8 ++ padding 96) 16
unfolding first_words digest_bytes
outer_words-is h below =
    let at = λ (k : ℕ). sym (from_be_bytes-to_be_bytes_4 (slice_index h k) (below k)) in
    λ i. at 0 i ∷ at 1 i ∷ at 2 i ∷ at 3 i ∷ at 4 i ∷ at 5 i ∷ at 6 i ∷ at 7 i ∷ 0x8000_0000 ∷ 0 ∷ 0 ∷ 0 ∷ 0 ∷ 0 ∷ 0 ∷ 768 ∷ []

-- ---- a hash that goes on behind a block

shift : (initial block rest : List ℕ) (n : ℕ) → length block ≡ 64 → hash_after initial (block ++ rest) (suc n) ≡ hash_after (compress initial block) rest n
unfolding hash_after
shift initial block rest zero long = ap (λ (b : List ℕ). compress initial b) (take_at block rest 64 long)
shift initial block rest (suc n) long =
    let here : suc n * 64 ≡ length block + n * 64 = omega arith in
    let tail : drop (suc n * 64) (block ++ rest) ≡ drop (n * 64) rest = ap (λ m. drop m (block ++ rest)) here ∙ drop-append-add block rest (n * 64) in
    ap (λ (h : List ℕ). compress h (take 64 (drop (suc n * 64) (block ++ rest)))) (shift initial block rest n long)
    ∙ ap (λ (l : List ℕ). compress (hash_after (compress initial block) rest n) (take 64 l)) tail

pub behind : (block octets start : List ℕ) (count : ℕ) → length block ≡ 64 → start ≡ state_behind block → length (after_a_block octets) ≡ count * 64
    → final_hash initial_hash_256 (block ++ octets) ≡ hash_after start (after_a_block octets) count
behind block octets start count long start_is whole =
    let total : length (block ++ octets) ≡ 64 + length octets = length-append block octets ∙ omega arith in
    let padded : padded_message (block ++ octets) ≡ block ++ after_a_block octets =
    ap (λ n. (block ++ octets) ++ padding n) total ∙ append_assoc block octets (padding (64 + length octets)) in
    let blocks : length (padded_message (block ++ octets)) / 64 ≡ suc count =
    ap (λ (l : List ℕ). length l / 64) padded ∙ omega (arith, length-append block (after_a_block octets)) in
    ap (λ n. hash_after initial_hash_256 (padded_message (block ++ octets)) n) blocks
    ∙ ap (λ (l : List ℕ). hash_after initial_hash_256 l (suc count)) padded
    ∙ shift initial_hash_256 block (after_a_block octets) count long
    ∙ ap (λ (s : List ℕ). hash_after s (after_a_block octets) count) (sym start_is)

-- ---- the tag

length-short_key : (key : List ℕ) → length (short_key key) ≤ 64
length-short_key key = grind (arith, nat_tests, length-sha256)

pub length-pad_with : (pad : ℕ) (key : List ℕ) → length (pad_with pad (hmac_block key)) ≡ 64
length-pad_with pad key =
    let short = length-short_key key in
    length-map (hmac_block key) _ ∙ omega (arith, length-append (short_key key) (replicate (64 - length (short_key key)) 0), length-replicate {A = ℕ} (64 - length (short_key key)) 0)

-- what the outer hash takes behind its pad is one block
one_block : (digest start : List ℕ) → length digest ≡ 32 → hash_after start (after_a_block digest) 1 ≡ compress start (digest ++ padding 96)
unfolding hash_after
one_block digest start long =
    let size : 64 + length digest ≡ 96 = omega arith in
    let whole : length (digest ++ padding 96) ≡ 64 = length-append digest (padding 96) ∙ ap (λ n. n + 32) long in
    ap (λ n. compress start (take 64 (digest ++ padding n))) size
    ∙ ap (λ (l : List ℕ). compress start l) (take_all 64 (digest ++ padding 96) (omega arith))

pub tag-is : (key octets inner outer digest tag : List ℕ) (count : ℕ) → HasStates key inner outer
    → digest ≡ hash_after inner (after_a_block octets) count → length (after_a_block octets) ≡ count * 64
    → tag ≡ compress outer (digest_bytes digest 8 ++ padding 96) → digest_bytes tag 8 ≡ hmac_sha256 key octets
unfolding hmac_sha256 sha256
tag-is key octets inner outer digest tag count states digest_is whole tag_is =
    let message : List ℕ = pad_with 0x36 (hmac_block key) ++ octets in
    let first : digest_bytes digest 8 ≡ sha256 message =
    ap (λ (h : List ℕ). digest_bytes h 8) (digest_is ∙ sym (behind (pad_with 0x36 (hmac_block key)) octets inner count (length-pad_with 0x36 key) states.inner_pad whole)) in
    let long : length (sha256 message) ≡ 32 = length-sha256 message in
    let one : length (after_a_block (sha256 message)) ≡ 1 * 64 =
    length-append (sha256 message) (padding (64 + length (sha256 message))) ∙ ap (λ n. n + length (padding (64 + n))) long in
    let second = behind (pad_with 0x5c (hmac_block key)) (sha256 message) outer 1 (length-pad_with 0x5c key) states.outer_pad one in
    ap (λ (h : List ℕ). digest_bytes h 8) (tag_is ∙ ap (λ (d : List ℕ). compress outer (d ++ padding 96)) first ∙ sym (one_block (sha256 message) outer long) ∙ sym second)

-- a message and its padding have a block at least
pub has_a_block : (octets : List ℕ) (count : ℕ) → length (after_a_block octets) ≡ count * 64 → 1 ≤ count
has_a_block octets count whole = omega (arith, length-append octets (padding (64 + length octets)))

-- so many that they fill blocks
pub whole_after : (octets : List ℕ) → length (after_a_block octets) ≡ length (after_a_block octets) / 64 * 64
whole_after octets =
    let n : ℕ = 64 + length octets in
    let zeros = (119 - n % 64) % 64 in
    let long = length-append octets (padding n) in
    let some = length-replicate {A = ℕ} zeros 0 in
    let all = length-append (replicate zeros 0) (to_be_bytes w64 (n * 8 % 2 ^ 64)) in
    omega arith

pub length-hash_after : (start octets : List ℕ) (n : ℕ) → length (hash_after start octets (n + 1)) ≡ 8
unfolding hash_after compress
length-hash_after start octets n = rw add-one refl
