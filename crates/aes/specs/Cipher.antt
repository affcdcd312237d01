-- CIPHER and INVCIPHER for a key of 256 bits, with 14 rounds (FIPS 197, sections 5.1 and 5.3).
use Rattle.std.specs.Prelude.{ℕ, zero, suc, ◌-◌, List}
use Rattle.aes.specs.State.{sub_bytes, inv_sub_bytes, shift_rows, inv_shift_rows, mix_columns, inv_mix_columns, add_round_key}
use Rattle.aes.specs.KeyExpansion.{key_expansion}

-- the state after n rounds, under the key schedule w
unfoldable pub rounds : List ℕ → List ℕ → ℕ → List ℕ
rounds w block zero = add_round_key w 0 block
rounds w block (suc n) = add_round_key w (suc n) (mix_columns (shift_rows (sub_bytes (rounds w block n))))

-- the last round doesn't mix columns
unfoldable pub cipher : List ℕ → List ℕ → List ℕ
cipher w block = add_round_key w 14 (shift_rows (sub_bytes (rounds w block 13)))

-- the state after n rounds of INVCIPHER, which begin with the last round key
unfoldable pub inv_rounds : List ℕ → List ℕ → ℕ → List ℕ
inv_rounds w block zero = add_round_key w 14 block
inv_rounds w block (suc n) = inv_mix_columns (add_round_key w (13 - n) (inv_sub_bytes (inv_shift_rows (inv_rounds w block n))))

unfoldable pub inv_cipher : List ℕ → List ℕ → List ℕ
inv_cipher w block = add_round_key w 0 (inv_sub_bytes (inv_shift_rows (inv_rounds w block 13)))

-- a block of 16 octets, encrypted and decrypted under a key of 32
unfoldable pub encrypted : List ℕ → List ℕ → List ℕ
encrypted key block = cipher (key_expansion key) block

unfoldable pub decrypted : List ℕ → List ℕ → List ℕ
decrypted key block = inv_cipher (key_expansion key) block
