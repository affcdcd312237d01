-- What the caller of scripts means: a cipher that hides nothing, the exclusive or as key agreement, and a
-- keyed hash under one shared secret as the proof.
use Rattle.std.specs.Prelude.{ℕ, ◌+◌, ◌-◌, Bool, ◌&&◌, nat_eq, nat_le, Option, Some, None, List, [], ◌∷◌, ◌++◌, length, map, take, drop, slice_index, bit_xor, codes, if◌then◌else◌}
use Rattle.std.specs.List.{range_with_len}
use Rattle.std.specs.Cmp.Lexicographic.{pointwise}
use Rattle.mac.specs.Hmac.{hmac_sha256, icv_sha256}
use Rattle.suite.specs.declared.keys.Keys.{Keys}
use Rattle.suite.specs.declared.sealer.Cipher.{Cipher}

-- its cipher's and its group's numbers, of those for private use (RFC 7296 section 3.3.2); the cipher has
-- no key length
abbrev pub script_cipher : Cipher
script_cipher = record { id = 65001; key_length = None }

abbrev pub script_group : ℕ
script_group = 65002

-- a shared secret proves (section 3.8)
abbrev pub script_method : ℕ
script_method = 2

-- a public value is the secret itself
abbrev pub script_public : List ℕ → List ℕ
script_public secret = secret

-- the octets of a body, by those of its plain text
abbrev pub script_size : ℕ → ℕ
script_size plain = plain + 17

-- what follows the plain text: an octet 00, and the ICV over head, plain text and that octet
abbrev pub tail_of : Keys → List ℕ → List ℕ → List ℕ
tail_of keys head plain = 0 ∷ icv_sha256 keys.integrity (head ++ plain ++ 0 ∷ [])

unfoldable pub script_body : Keys → List ℕ → List ℕ → List ℕ → List ℕ
script_body keys head plain fresh = plain ++ tail_of keys head plain

-- a body of 17 octets or more that ends as it should
unfoldable pub script_plain : Keys → List ℕ → List ℕ → Option (List ℕ)
script_plain keys head body =
    let end = length body - 17 in
    if nat_le 17 (length body) && pointwise nat_eq (drop end body) (tail_of keys head (take end body)) then Some (take end body) else None

abbrev pub exclusive_or : List ℕ → List ℕ → List ℕ
exclusive_or a b = map (λ k. bit_xor (slice_index a k) (slice_index b k)) (range_with_len 0 32)

unfoldable pub common_secret : List ℕ → List ℕ → Option (List ℕ)
common_secret a b = if nat_eq (length b) 32 then Some (exclusive_or a b) else None

-- prf (prf ("play", "Key Pad for IKEv2"), octets), as a shared secret proves (RFC 7296 section 2.15)
unfoldable pub keyed_proof : List ℕ → List ℕ
keyed_proof octets = hmac_sha256 (hmac_sha256 (codes "play") (codes "Key Pad for IKEv2")) octets

-- method 2 (section 3.8), and the very proof
unfoldable pub is_proof : ℕ → List ℕ → List ℕ → Bool
is_proof method octets given = nat_eq method 2 && pointwise nat_eq given (keyed_proof octets)
