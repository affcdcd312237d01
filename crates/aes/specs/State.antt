-- The state of 16 octets, and what the rounds do to it (FIPS 197, sections 3.4, 5.1 and 5.3).
use Rattle.std.specs.Prelude.{ℕ, ◌+◌, ◌-◌, ◌*◌, ◌/◌, ◌%◌, List, map, slice_index, bit_xor}
use Rattle.std.specs.List.{range_with_len}
use Rattle.aes.specs.Field.{times}
use Rattle.aes.specs.Substitution.{sub_byte, inv_sub_byte}

-- s[r,c]: the state goes by columns (section 3.4)
abbrev pub cell : List ℕ → ℕ → ℕ → ℕ
cell s r c = slice_index s (r + 4 * c)

-- the state with these cells
abbrev pub state_of : (ℕ → ℕ → ℕ) → List ℕ
state_of f = map (λ k. f (k % 4) (k / 4)) (range_with_len 0 16)

-- SUBBYTES and INVSUBBYTES (sections 5.1.1 and 5.3.2)
unfoldable pub sub_bytes : List ℕ → List ℕ
sub_bytes s = state_of (λ r c. sub_byte (cell s r c))

unfoldable pub inv_sub_bytes : List ℕ → List ℕ
inv_sub_bytes s = state_of (λ r c. inv_sub_byte (cell s r c))

-- SHIFTROWS: s'[r,c] = s[r,(c + r) mod 4] (section 5.1.2), and INVSHIFTROWS: s'[r,c] = s[r,(c - r) mod 4]
-- (section 5.3.1)
unfoldable pub shift_rows : List ℕ → List ℕ
shift_rows s = state_of (λ r c. cell s r ((c + r) % 4))

unfoldable pub inv_shift_rows : List ℕ → List ℕ
inv_shift_rows s = state_of (λ r c. cell s r ((c + 4 - r) % 4))

-- a row of a matrix times a column
abbrev pub row_times : ℕ → ℕ → ℕ → ℕ → ℕ → ℕ → ℕ → ℕ → ℕ
row_times a b c d v0 v1 v2 v3 = bit_xor (times a v0) (bit_xor (times b v1) (bit_xor (times c v2) (times d v3)))

-- each column times the matrix whose first row is a b c d and whose further rows are that row, rotated to the
-- right (section 4.3)
abbrev pub columns_times : ℕ → ℕ → ℕ → ℕ → List ℕ → List ℕ
columns_times a b c d s =
    state_of (λ r k. row_times a b c d (cell s r k) (cell s ((r + 1) % 4) k) (cell s ((r + 2) % 4) k) (cell s ((r + 3) % 4) k))

-- MIXCOLUMNS (section 5.1.3) and INVMIXCOLUMNS (section 5.3.3)
unfoldable pub mix_columns : List ℕ → List ℕ
mix_columns s = columns_times 0x02 0x03 0x01 0x01 s

unfoldable pub inv_mix_columns : List ℕ → List ℕ
inv_mix_columns s = columns_times 0x0e 0x0b 0x0d 0x09 s

-- ADDROUNDKEY: to column c is added the word w[4 round + c] of the key schedule (section 5.1.4)
unfoldable pub add_round_key : List ℕ → ℕ → List ℕ → List ℕ
add_round_key w round s = state_of (λ r c. bit_xor (cell s r c) (slice_index w (4 * (4 * round + c) + r)))
