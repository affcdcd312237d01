-- SBOX and its inverse (FIPS 197, sections 5.1.1 and 5.3.2).
use Rattle.std.specs.Prelude.{ℕ, ◌+◌, ◌*◌, ◌%◌, ◌^◌, ◌==◌, List, map, sum}
use Rattle.std.specs.Int.{bit_at}
use Rattle.std.specs.List.{range_with_len, position_or_len}
use Rattle.aes.specs.Field.{inverse}

-- bit i of the affine map, whose constant is 63 (section 5.1.1)
abbrev pub affine_bit : ℕ → ℕ → ℕ
affine_bit b i =
    (bit_at b i + bit_at b ((i + 4) % 8) + bit_at b ((i + 5) % 8) + bit_at b ((i + 6) % 8) + bit_at b ((i + 7) % 8) + bit_at 0x63 i) % 2

abbrev pub affine : ℕ → ℕ
affine b = sum (map (λ i. affine_bit b i * 2 ^ i) (range_with_len 0 8))

-- SBOX of an octet: the affine map of its inverse
unfoldable pub sub_byte : ℕ → ℕ
sub_byte b = affine (inverse b)

-- SBOX of every octet
abbrev pub sbox : List ℕ
sbox = map sub_byte (range_with_len 0 256)

-- INVSBOX of an octet: the one whose SBOX it is
unfoldable pub inv_sub_byte : ℕ → ℕ
inv_sub_byte s = position_or_len (λ x. x == s) sbox
