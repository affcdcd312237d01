-- The field of 256 octets, polynomials over two elements modulo x^8 + x^4 + x^3 + x + 1 (FIPS 197,
-- section 4).
use Rattle.std.specs.Prelude.{ℕ, zero, suc, ◌*◌, ◌/◌, ◌%◌, ◌==◌, bit_xor, if◌then◌else◌}

-- XTIMES: the product with x (section 4.2)
unfoldable pub xtimes : ℕ → ℕ
xtimes b = bit_xor (2 * b % 256) (if b / 128 % 2 == 1 then 0x1b else 0)

-- the sum of x^i b over the lowest n bits of a that are set
abbrev pub times_bits : ℕ → ℕ → ℕ → ℕ
times_bits zero a b = 0
times_bits (suc n) a b = bit_xor (if a % 2 == 1 then b else 0) (times_bits n (a / 2) (xtimes b))

-- the product of two octets (section 4.2)
unfoldable pub times : ℕ → ℕ → ℕ
times a b = times_bits 8 a b

-- b^2 b^4 .. b^(2^n)
abbrev pub even_powers : ℕ → ℕ → ℕ
even_powers zero b = 1
even_powers (suc n) b = times (times b b) (even_powers n (times b b))

-- the inverse of an octet, b^254, which is 0 at 0 (section 4.4)
unfoldable pub inverse : ℕ → ℕ
inverse b = even_powers 7 b
