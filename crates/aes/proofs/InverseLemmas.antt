-- What is encrypted decrypts to the same block, and the other way round.
use Rattle.std.proofs.Common.{◌≡◌, ℕ, zero, suc, ◌+◌, ◌-◌, ◌/◌, ◌%◌, ◌^◌, ◌<◌, ◌≤◌, Bool, true, false, cond, eqb, List, [], ◌∷◌, ◌++◌, length, get_or, bit_xor, map, refl, sym, ap, ◌∙◌, subst, arith, inl, inr}
use Rattle.std.specs.List.{range_with_len, AllByRecursion}
use Rattle.std.specs.Int.Bits.{xor_lt}
use Rattle.std.proofs.lemmas.Bool.{cases_lt}
use Rattle.std.proofs.lemmas.Nat.{pow_below}
use Rattle.std.proofs.lemmas.List.{get_or_past, get_or_append_left, get_or-append_right}
use Rattle.std.proofs.lemmas.List.FromFn.{get_or-map-range_with_len}
use Rattle.aes.specs.Substitution.{sub_byte}
use Rattle.aes.specs.State.{sub_bytes, inv_sub_bytes, shift_rows, inv_shift_rows, mix_columns, inv_mix_columns, add_round_key}
use Rattle.aes.specs.KeyExpansion.{word_octet, round_constant, added_octet, next_word, expanded, key_expansion}
use Rattle.aes.specs.Cipher.{rounds, cipher, inv_rounds, inv_cipher, encrypted, decrypted}
use Rattle.aes.specs.Laws.{IsKey, IsBlock}
use Rattle.aes.proofs.TableLemmas.{sub_byte_lt}
use Rattle.aes.proofs.KeyLemmas.{expanded-zero, expanded-suc, expanded-length}
use Rattle.aes.proofs.CipherLemmas.{rounds-suc, rounds_begin, inv_rounds-suc, inv_rounds_begin}
use Rattle.aes.proofs.StateLemmas.{IsState, sub_bytes-state, inv_sub_bytes-state, inv_sub_bytes-sub_bytes, sub_bytes-inv_sub_bytes, shift_rows-state, inv_shift_rows-state, inv_shift_rows-shift_rows, shift_rows-inv_shift_rows, add_round_key-state, add_round_key-twice, mix_columns-state, inv_mix_columns-state, inv_mix_columns-mix_columns, mix_columns-inv_mix_columns}

abbrev AreOctets : List ℕ → Type 0
AreOctets xs = (k : ℕ) → get_or xs k 0 < 256

pub are_octets : (xs : List ℕ) → AllByRecursion (λ octet. octet < 256) xs → AreOctets xs
are_octets [] fits k = omega arith
are_octets (x ∷ xs) fits zero = fits.0
are_octets (x ∷ xs) fits (suc k) = are_octets xs fits.1 k

by_recursion : (xs : List ℕ) → AreOctets xs → AllByRecursion (λ octet. octet < 256) xs
by_recursion [] fits = tt
by_recursion (x ∷ xs) fits = (fits 0, by_recursion xs (λ k. fits (suc k)))

-- ---- the key schedule is octets
append_octets : (xs ys : List ℕ) → AreOctets xs → AreOctets ys → AreOctets (xs ++ ys)
append_octets xs ys front back k = elim (cases_lt k (length xs)) [
  | inl within ↦ subst (λ (x : ℕ). x < 256) (sym (get_or_append_left xs ys 0 k within)) (front k)
  | inr past ↦ subst (λ (x : ℕ). x < 256) (sym (get_or-append_right xs ys (length xs) k 0 refl past)) (back (k - length xs))
]

constant_lt : (j r : ℕ) → j ≤ 8 → round_constant j r < 256
constant_lt j r few =
    let P : Bool → Type 0 = λ t. cond t (2 ^ (j - 1)) 0 < 256 in
    elim (eqb r 0) as P [ true ↦ pow_below (j - 1) 8 (omega arith) | false ↦ omega arith ]

added_octet_lt : (w : List ℕ) (i r : ℕ) → i < 60 → AreOctets w → added_octet w i r < 256
added_octet_lt w i r few fits =
    let before = word_octet w (i - 1) in
    let rotated : bit_xor (sub_byte (before ((r + 1) % 4))) (round_constant (i / 8) r) < 256 =
    xor_lt 8 _ _ (sub_byte_lt (before ((r + 1) % 4)) (fits _)) (constant_lt (i / 8) r (omega arith)) in
    let substituted : sub_byte (before r) < 256 = sub_byte_lt (before r) (fits _) in
    let as_it_is : before r < 256 = fits _ in
    let Q : Bool → Type 0 = λ t. cond t (sub_byte (before r)) (before r) < 256 in
    let other : Q (eqb (i % 8) 4) = elim (eqb (i % 8) 4) as Q [ true ↦ substituted | false ↦ as_it_is ] in
    let P : Bool → Type 0 = λ t. cond t (bit_xor (sub_byte (before ((r + 1) % 4))) (round_constant (i / 8) r)) (cond (eqb (i % 8) 4) (sub_byte (before r)) (before r)) < 256 in
    elim (eqb (i % 8) 0) as P [ true ↦ rotated | false ↦ other ]

abbrev word_octets : List ℕ → ℕ → ℕ
word_octets w r = bit_xor (word_octet w (length w / 4 - 8) r) (added_octet w (length w / 4) r)

next_word_octets : (w : List ℕ) → length w < 240 → AreOctets w → AreOctets (next_word w)
unfolding next_word
next_word_octets w few fits k = elim (cases_lt k 4) [
  | inl within ↦
      (let at = get_or-map-range_with_len (word_octets w) 0 4 k k 0 within (omega arith) in
      let low : word_octets w k < 256 = xor_lt 8 _ _ (fits _) (added_octet_lt w (length w / 4) k (omega arith) fits) in
      subst (λ (x : ℕ). x < 256) (sym at) low)
  | inr past ↦ subst (λ (x : ℕ). x < 256) (sym (get_or_past (map (word_octets w) (range_with_len 0 4)) k 0 past)) (omega arith)
]

expanded_octets : (key : List ℕ) (n : ℕ) → length key ≡ 32 → n ≤ 52 → AreOctets key → AreOctets (expanded key n)
expanded_octets key zero whole few fits = subst AreOctets (sym (expanded-zero key)) fits
expanded_octets key (suc n) whole few fits =
    let before = expanded_octets key n whole (omega arith) fits in
    let long = expanded-length key n whole in
    let next = next_word_octets (expanded key n) (omega arith) before in
    subst AreOctets (sym (expanded-suc key n)) (append_octets (expanded key n) (next_word (expanded key n)) before next)

schedule_octets : (key : List ℕ) → IsKey key → AreOctets (key_expansion key)
unfolding key_expansion
schedule_octets key is = expanded_octets key 52 is.whole (omega arith) (are_octets key is.octets)

-- ---- the rounds
module _ (w : List ℕ) (key : (k : ℕ) → get_or w k 0 < 256) where
  rounds-state : (block : List ℕ) (n : ℕ) → IsState block → IsState (rounds w block n)
  rounds-state block zero is = subst IsState (sym (rounds_begin w block)) (add_round_key-state w 0 block key is)
  rounds-state block (suc n) is =
      subst IsState (sym (rounds-suc w block n))
      (add_round_key-state w (suc n) _ key (mix_columns-state _ (shift_rows-state _ (sub_bytes-state _ (rounds-state block n is)))))

  inv_rounds-state : (block : List ℕ) (n : ℕ) → IsState block → IsState (inv_rounds w block n)
  inv_rounds-state block zero is = subst IsState (sym (inv_rounds_begin w block)) (add_round_key-state w 14 block key is)
  inv_rounds-state block (suc n) is =
      subst IsState (sym (inv_rounds-suc w block n))
      (inv_mix_columns-state _ (add_round_key-state w (13 - n) _ key (inv_sub_bytes-state _ (inv_shift_rows-state _ (inv_rounds-state block n is)))))

  pub cipher-state : (block : List ℕ) → IsState block → IsState (cipher w block)
  unfolding cipher
  cipher-state block is = add_round_key-state w 14 _ key (shift_rows-state _ (sub_bytes-state _ (rounds-state block 13 is)))

  pub inv_cipher-state : (block : List ℕ) → IsState block → IsState (inv_cipher w block)
  unfolding inv_cipher
  inv_cipher-state block is = add_round_key-state w 0 _ key (inv_sub_bytes-state _ (inv_shift_rows-state _ (inv_rounds-state block 13 is)))

  -- SUBBYTES and SHIFTROWS, and back
  there_back : (s : List ℕ) → IsState s → inv_sub_bytes (inv_shift_rows (shift_rows (sub_bytes s))) ≡ s
  there_back s is = ap inv_sub_bytes (inv_shift_rows-shift_rows (sub_bytes s) (sub_bytes-state s is)) ∙ inv_sub_bytes-sub_bytes s is

  back_there : (s : List ℕ) → IsState s → shift_rows (sub_bytes (inv_sub_bytes (inv_shift_rows s))) ≡ s
  back_there s is = ap shift_rows (sub_bytes-inv_sub_bytes (inv_shift_rows s) (inv_shift_rows-state s is)) ∙ shift_rows-inv_shift_rows s is

  -- n rounds back from the end of CIPHER
  undone : (block : List ℕ) (n m : ℕ) → n + m ≡ 13 → IsState block → inv_rounds w (cipher w block) n ≡ shift_rows (sub_bytes (rounds w block m))
  unfolding cipher
  undone block zero m sum is =
      let last : m ≡ 13 = omega arith in
      let state = shift_rows-state _ (sub_bytes-state _ (rounds-state block 13 is)) in
      inv_rounds_begin w (cipher w block)
      ∙ add_round_key-twice w 14 (shift_rows (sub_bytes (rounds w block 13))) state.whole
      ∙ ap (λ (k : ℕ). shift_rows (sub_bytes (rounds w block k))) (sym last)
  undone block (suc n) m sum is =
      let number : 13 - n ≡ suc m = omega arith in
      let mixed = mix_columns (shift_rows (sub_bytes (rounds w block m))) in
      let state = shift_rows-state _ (sub_bytes-state _ (rounds-state block m is)) in
      inv_rounds-suc w (cipher w block) n
      ∙ ap (λ (s : List ℕ). inv_mix_columns (add_round_key w (13 - n) (inv_sub_bytes (inv_shift_rows s)))) (undone block n (suc m) (omega arith) is)
      ∙ ap (λ (s : List ℕ). inv_mix_columns (add_round_key w (13 - n) s)) (there_back (rounds w block (suc m)) (rounds-state block (suc m) is))
      ∙ ap (λ (k : ℕ). inv_mix_columns (add_round_key w k (rounds w block (suc m)))) number
      ∙ ap (λ (s : List ℕ). inv_mix_columns (add_round_key w (suc m) s)) (rounds-suc w block m)
      ∙ ap inv_mix_columns (add_round_key-twice w (suc m) mixed (mix_columns-state _ state).whole)
      ∙ inv_mix_columns-mix_columns _ state

  pub inv_cipher-cipher : (block : List ℕ) → IsState block → inv_cipher w (cipher w block) ≡ block
  unfolding inv_cipher
  inv_cipher-cipher block is =
      ap (λ (s : List ℕ). add_round_key w 0 (inv_sub_bytes (inv_shift_rows s))) (undone block 13 0 refl is)
      ∙ ap (add_round_key w 0) (there_back (rounds w block 0) (rounds-state block 0 is))
      ∙ ap (add_round_key w 0) (rounds_begin w block)
      ∙ add_round_key-twice w 0 block is.whole

  -- n rounds on from the end of INVCIPHER
  redone : (block : List ℕ) (n m : ℕ) → n + m ≡ 13 → IsState block → rounds w (inv_cipher w block) n ≡ inv_sub_bytes (inv_shift_rows (inv_rounds w block m))
  unfolding inv_cipher
  redone block zero m sum is =
      let last : m ≡ 13 = omega arith in
      let state = inv_sub_bytes-state _ (inv_shift_rows-state _ (inv_rounds-state block 13 is)) in
      rounds_begin w (inv_cipher w block)
      ∙ add_round_key-twice w 0 (inv_sub_bytes (inv_shift_rows (inv_rounds w block 13))) state.whole
      ∙ ap (λ (k : ℕ). inv_sub_bytes (inv_shift_rows (inv_rounds w block k))) (sym last)
  redone block (suc n) m sum is =
      let number : 13 - m ≡ suc n = omega arith in
      let state = inv_sub_bytes-state _ (inv_shift_rows-state _ (inv_rounds-state block m is)) in
      let keyed = add_round_key w (13 - m) (inv_sub_bytes (inv_shift_rows (inv_rounds w block m))) in
      let keyed_state = add_round_key-state w (13 - m) _ key state in
      rounds-suc w (inv_cipher w block) n
      ∙ ap (λ (s : List ℕ). add_round_key w (suc n) (mix_columns (shift_rows (sub_bytes s)))) (redone block n (suc m) (omega arith) is)
      ∙ ap (λ (s : List ℕ). add_round_key w (suc n) (mix_columns s)) (back_there (inv_rounds w block (suc m)) (inv_rounds-state block (suc m) is))
      ∙ ap (λ (s : List ℕ). add_round_key w (suc n) (mix_columns s)) (inv_rounds-suc w block m)
      ∙ ap (add_round_key w (suc n)) (mix_columns-inv_mix_columns keyed keyed_state)
      ∙ ap (λ (k : ℕ). add_round_key w k keyed) (sym number)
      ∙ add_round_key-twice w (13 - m) _ state.whole

  pub cipher-inv_cipher : (block : List ℕ) → IsState block → cipher w (inv_cipher w block) ≡ block
  unfolding cipher
  cipher-inv_cipher block is =
      ap (λ (s : List ℕ). add_round_key w 14 (shift_rows (sub_bytes s))) (redone block 13 0 refl is)
      ∙ ap (add_round_key w 14) (back_there (inv_rounds w block 0) (inv_rounds-state block 0 is))
      ∙ ap (add_round_key w 14) (inv_rounds_begin w block)
      ∙ add_round_key-twice w 14 block is.whole

-- ---- under a key
state_of_block : (block : List ℕ) → IsBlock block → IsState block
state_of_block block is = record { whole = is.whole; octets = are_octets block is.octets }

block_of_state : (block : List ℕ) → IsState block → IsBlock block
block_of_state block is = record { whole = is.whole; octets = by_recursion block is.octets }

pub decrypted-encrypted : (key block : List ℕ) → IsKey key → IsBlock block → decrypted key (encrypted key block) ≡ block
unfolding encrypted decrypted
decrypted-encrypted key block is_key is_block = inv_cipher-cipher (key_expansion key) (schedule_octets key is_key) block (state_of_block block is_block)

pub encrypted-decrypted : (key block : List ℕ) → IsKey key → IsBlock block → encrypted key (decrypted key block) ≡ block
unfolding encrypted decrypted
encrypted-decrypted key block is_key is_block = cipher-inv_cipher (key_expansion key) (schedule_octets key is_key) block (state_of_block block is_block)

pub encrypted_block : (key block : List ℕ) → IsKey key → IsBlock block → IsBlock (encrypted key block)
unfolding encrypted
encrypted_block key block is_key is_block =
    block_of_state _ (cipher-state (key_expansion key) (schedule_octets key is_key) block (state_of_block block is_block))

pub decrypted_block : (key block : List ℕ) → IsKey key → IsBlock block → IsBlock (decrypted key block)
unfolding decrypted
decrypted_block key block is_key is_block =
    block_of_state _ (inv_cipher-state (key_expansion key) (schedule_octets key is_key) block (state_of_block block is_block))
