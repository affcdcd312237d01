-- KEYEXPANSION for a key of 256 bits (FIPS 197, section 5.2). A list of words is that of their octets, four a
-- word.
use Rattle.std.specs.Prelude.{ℕ, zero, suc, ◌+◌, ◌-◌, ◌*◌, ◌/◌, ◌%◌, ◌^◌, ◌==◌, List, ◌++◌, length, map, slice_index, bit_xor, if◌then◌else◌}
use Rattle.std.specs.List.{range_with_len}
use Rattle.aes.specs.Substitution.{sub_byte}

-- octet r of the word w[i]
abbrev pub word_octet : List ℕ → ℕ → ℕ → ℕ
word_octet w i r = slice_index w (4 * i + r)

-- octet r of Rcon[j], whose first octet is x^(j - 1): no reduction up to j = 8
abbrev pub round_constant : ℕ → ℕ → ℕ
round_constant j r = if r == 0 then 2 ^ (j - 1) else 0

-- octet r of what w[i] adds to w[i - 8]: w[i - 1], as it is or by SUBWORD, or by ROTWORD, SUBWORD and Rcon
abbrev pub added_octet : List ℕ → ℕ → ℕ → ℕ
added_octet w i r =
    if i % 8 == 0 then bit_xor (sub_byte (word_octet w (i - 1) ((r + 1) % 4))) (round_constant (i / 8) r)
    else (if i % 8 == 4 then sub_byte (word_octet w (i - 1) r) else word_octet w (i - 1) r)

-- the word behind those that there are
unfoldable pub next_word : List ℕ → List ℕ
next_word w =
    let i = length w / 4 in
    map (λ r. bit_xor (word_octet w (i - 8) r) (added_octet w i r)) (range_with_len 0 4)

-- the key's eight words, and n words more
unfoldable pub expanded : List ℕ → ℕ → List ℕ
expanded key zero = key
expanded key (suc n) = expanded key n ++ next_word (expanded key n)

-- 60 words: 15 round keys
unfoldable pub key_expansion : List ℕ → List ℕ
key_expansion key = expanded key 52
