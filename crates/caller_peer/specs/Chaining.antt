-- The CBC mode of AES-256 (SP 800-38A, section 6.2), by blocks of 16 octets.
use Rattle.std.specs.Prelude.{◌≡◌, ℕ, zero, suc, ◌*◌, ◌<◌, List, [], ◌++◌, length, map, take, drop, slice_index, bit_xor}
use Rattle.std.specs.List.{range_with_len}
use Rattle.aes.specs.Cipher.{encrypted, decrypted}

-- two blocks, bit by bit
unfoldable pub both : List ℕ → List ℕ → List ℕ
both a b = map (λ k. bit_xor (slice_index a k) (slice_index b k)) (range_with_len 0 16)

-- C_j = CIPH (P_j + C_(j-1)), for n blocks behind the block before them
unfoldable pub cbc_encrypted : List ℕ → List ℕ → ℕ → List ℕ → List ℕ
cbc_encrypted key before zero text = []
cbc_encrypted key before (suc n) text =
    encrypted key (both (take 16 text) before) ++ cbc_encrypted key (encrypted key (both (take 16 text) before)) n (drop 16 text)

-- P_j = CIPH^-1 (C_j) + C_(j-1)
unfoldable pub cbc_decrypted : List ℕ → List ℕ → ℕ → List ℕ → List ℕ
cbc_decrypted key before zero text = []
cbc_decrypted key before (suc n) text = both (decrypted key (take 16 text)) before ++ cbc_decrypted key (take 16 text) n (drop 16 text)

-- block j of octets, from 0 on
abbrev pub block_at : List ℕ → ℕ → List ℕ
block_at octets j = take 16 (drop (16 * j) octets)

-- as section 6.2 has it, block by block: each is the encrypted sum of the plain text's and the one before
-- it, the first of which is the vector
pub record AreChained (key vector plain blocks : List ℕ) : Type 0 where
  pub as_long : length blocks ≡ length plain
  pub each : (j : ℕ) → 16 * j < length plain → block_at blocks j ≡ encrypted key (both (block_at plain j) (block_at (vector ++ blocks) j))
