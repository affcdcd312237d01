-- How a message ends: the padding of SHA-256 (FIPS 180-4, section 5.1.1) behind a first block.
use Rattle.std.specs.Prelude.{◌≡◌, ℕ, ◌+◌, ◌-◌, ◌<◌, ◌≤◌, List, ◌∷◌, ◌++◌, length, replicate}
use Rattle.std.specs.Int.{w64, to_be_bytes}
use Rattle.sha2.specs.Sha256.{padding}

-- what SHA-256 takes after a first block of 64 octets: a message, and the padding of both
abbrev pub after_a_block : List ℕ → List ℕ
after_a_block message = message ++ padding (64 + length message)

-- two blocks that begin with these octets, and have zeros after them
abbrev pub filled : List ℕ → List ℕ
filled octets = octets ++ replicate (128 - length octets) 0

-- the octets after the last whole block need one block or two: a bit and the length of 8 octets stand
-- behind them
pub record IsEndLen (used size : ℕ) : Type 0 where
  pub one : used < 56 → size ≡ 64
  pub two : 56 ≤ used → size ≡ 128

-- octets padded to a size
abbrev pub padded_to : ℕ → ℕ → List ℕ → List ℕ
padded_to size bits octets = octets ++ (0x80 ∷ replicate (size - (length octets + 9)) 0 ++ to_be_bytes w64 bits)
