-- Octets written as hexadecimal digits.
use Rattle.std.specs.Prelude.{ℕ, Bool, false, List, [], ◌∷◌, ◌^◌, ◌-◌, codes, filter, not, ◌||◌, ◌==◌}
use Rattle.std.specs.Fmt.{digits, format_spec, padded_integral}
use Rattle.hex.specs.Hex.{encode_lower}

-- a space, a tab, or part of a line end
abbrev pub is_blank : ℕ → Bool
is_blank octet = (octet == 32) || (octet == 9) || (octet == 13) || (octet == 10)

-- the text without blanks and line ends
abbrev pub digits_of : List ℕ → List ℕ
digits_of text = filter (λ octet. not (is_blank octet)) text

-- octets as digits in lower case, or a dash where there are none
abbrev pub text_of : List ℕ → List ℕ
text_of [] = codes "-"
text_of (octet ∷ octets) = encode_lower (octet ∷ octets)

-- a number of at most 64 bits in lower case, with zeros before it up to so many digits
abbrev pub hexadecimal : ℕ → ℕ → List ℕ
hexadecimal width number = padded_integral (format_spec 32 0 4 width (2 ^ 64 - 1)) false [] (digits 16 false number)
