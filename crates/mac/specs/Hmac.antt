-- HMAC-SHA-256 (RFC 2104, section 2) and HMAC-SHA-256-128 (RFC 4868, section 2), as functions on
-- lists of octets.
use Rattle.std.specs.Prelude.{ℕ, ◌-◌, List, ◌++◌, length, map, replicate, take, bit_xor, nat_le, if◌then◌else◌}
use Rattle.sha2.specs.Sha256.{sha256}

-- the key, or its digest where it has more octets than a block of SHA-256, which are 64
abbrev pub short_key : List ℕ → List ℕ
short_key key = if nat_le (length key) 64 then key else sha256 key

-- zeros after it, up to a block
abbrev pub fill_block : List ℕ → List ℕ
fill_block key = key ++ replicate (64 - length key) 0

-- K of RFC 2104: the block that the hash gets in place of the key
abbrev pub hmac_block : List ℕ → List ℕ
hmac_block key = fill_block (short_key key)

-- each octet of a block XOR the pad's
abbrev pub pad_with : ℕ → List ℕ → List ℕ
pad_with pad block = map (λ octet. bit_xor octet pad) block

-- H(K XOR opad, H(K XOR ipad, text))
abbrev pub keyed_hash : List ℕ → List ℕ → List ℕ
keyed_hash block message = sha256 (pad_with 0x5c block ++ sha256 (pad_with 0x36 block ++ message))

-- the authenticator of a message under a key: opaque where no proof unfolds it
unfoldable pub hmac_sha256 : List ℕ → List ℕ → List ℕ
hmac_sha256 key message = keyed_hash (hmac_block key) message

-- the integrity check value: the first 128 bits (RFC 4868, section 2.3)
unfoldable pub icv_sha256 : List ℕ → List ℕ → List ℕ
icv_sha256 key message = take 16 (hmac_sha256 key message)
