-- The lengths of what the keyed hash makes, and the block of a key of 32 octets, from which the key
-- can be read.
use Rattle.std.proofs.Common.{◌≡◌, ℕ, List, length, take, refl, arith}
use Rattle.std.proofs.lemmas.List.{length-take-le, take_at}
use Rattle.sha2.proofs.Facts256.{length-sha256}
use Rattle.mac.specs.Hmac.{hmac_block, hmac_sha256, icv_sha256, keyed_hash, short_key}

-- a tag has 32 octets, whatever the block
pub length-keyed_hash : (block message : List ℕ) → length (keyed_hash block message) ≡ 32
length-keyed_hash block message = length-sha256 _

pub length-hmac_sha256 : (key message : List ℕ) → length (hmac_sha256 key message) ≡ 32
unfolding hmac_sha256
length-hmac_sha256 key message = length-sha256 _

-- an integrity check value has 16
pub length-icv_sha256 : (key message : List ℕ) → length (icv_sha256 key message) ≡ 16
unfolding icv_sha256
length-icv_sha256 key message =
    let whole : length (hmac_sha256 key message) ≡ 32 = length-hmac_sha256 key message in
    length-take-le 16 (hmac_sha256 key message) (omega arith)

short_key-of_32 : (key : List ℕ) → length key ≡ 32 → short_key key ≡ key
short_key-of_32 key long = rw long refl

-- its first octets are the key
pub take-hmac_block : (key : List ℕ) → length key ≡ 32 → take 32 (hmac_block key) ≡ key
take-hmac_block key long = rw (short_key-of_32 key long) (take_at key _ 32 long)

-- so the block is that of its own first octets
pub block-of_key : (block key : List ℕ) → length key ≡ 32 → block ≡ hmac_block key →
    (block ≡ hmac_block (take 32 block)) × (length (take 32 block) ≡ 32)
block-of_key block key long is =
    let first : take 32 block ≡ key = rw is (take-hmac_block key long) in
    (rw first is, rw first long)
