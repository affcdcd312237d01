-- Bodies of encrypted payloads (RFC 7296, section 3.14) under AES-256 in CBC mode (RFC 3602) and
-- HMAC-SHA-256-128 (RFC 4868): initialization vector, encrypted payloads with padding and its length, check
-- value.
use Rattle.std.specs.Prelude.{ℕ, ◌+◌, ◌-◌, ◌*◌, ◌/◌, ◌%◌, Bool, ◌&&◌, nat_eq, nat_le, nat_lt, Option, Some, None, List, [], ◌∷◌, ◌++◌, length, take, drop, replicate, slice_index, if◌then◌else◌}
use Rattle.std.specs.Cmp.Lexicographic.{pointwise}
use Rattle.mac.specs.Hmac.{icv_sha256}
use Rattle.suite.specs.declared.keys.Keys.{Keys}
use Rattle.suite.specs.declared.sealer.Cipher.{Cipher}
use Rattle.caller_peer.specs.Chaining.{cbc_encrypted, cbc_decrypted}

-- ENCR_AES_CBC with a key of 256 bits (RFC 7296, sections 3.3.2 and 3.3.5)
abbrev pub aes_cbc : Cipher
aes_cbc = record { id = 12; key_length = Some 256 }

-- how many octets fill up a block, but for the pad length itself
abbrev pub pad_length : ℕ → ℕ
pad_length plain = 15 - plain % 16

abbrev pub zeros : ℕ → List ℕ
zeros count = replicate count 0

-- padding and pad length, behind a plain text of so many octets
unfoldable pub padding : ℕ → List ℕ
padding plain = zeros (pad_length plain) ++ pad_length plain ∷ []

-- how many blocks a plain text fills
abbrev pub blocks_of : ℕ → ℕ
blocks_of plain = plain / 16 + 1

-- a body is the vector, these blocks and the ICV
abbrev pub body_size : ℕ → ℕ
body_size plain = 16 + 16 * blocks_of plain + 16

-- vector and encrypted blocks
unfoldable pub encrypted_part : Keys → List ℕ → List ℕ → List ℕ
encrypted_part keys plain vector =
    vector ++ cbc_encrypted keys.encryption vector (blocks_of (length plain)) (plain ++ padding (length plain))

-- the ICV goes over what stands before the body, vector and encrypted blocks
unfoldable pub check_value : Keys → List ℕ → List ℕ → List ℕ
check_value keys head sealed = icv_sha256 keys.integrity (head ++ sealed)

unfoldable pub sealed_body : Keys → List ℕ → List ℕ → List ℕ → List ℕ
sealed_body keys head plain vector = encrypted_part keys plain vector ++ check_value keys head (encrypted_part keys plain vector)

-- what stands before a pad length, which is the last octet, and the padding that it tells
unfoldable pub unpadded : List ℕ → Option (List ℕ)
unpadded text =
    let pad = slice_index text (length text - 1) in
    if nat_lt pad (length text) then Some (take (length text - 1 - pad) text) else None

-- a vector, one block or more and an ICV, and the very ICV
unfoldable pub is_intact : Keys → List ℕ → List ℕ → Bool
is_intact keys head body =
    let end = length body - 16 in
    nat_le 48 (length body) && nat_eq (length body % 16) 0 && pointwise nat_eq (drop end body) (check_value keys head (take end body))

-- the blocks of a body, decrypted
unfoldable pub decrypted_part : Keys → List ℕ → List ℕ
decrypted_part keys body =
    let text = drop 16 (take (length body - 16) body) in
    cbc_decrypted keys.encryption (take 16 body) (length text / 16) text

unfoldable pub opened_body : Keys → List ℕ → List ℕ → Option (List ℕ)
opened_body keys head body = if is_intact keys head body then unpadded (decrypted_part keys body) else None
