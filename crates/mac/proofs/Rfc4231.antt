-- Cases of RFC 4231 at the definition itself, so that a wrong pad, order or length in it does not check.
use Rattle.std.proofs.Common.{◌≡◌, ◌∷◌, [], codes, refl, replicate}
use Rattle.sha2.specs.Sha256.{compress, digest_bytes, first_words, hash_after, rounds, schedule, sha256}
use Rattle.mac.specs.Hmac.{hmac_sha256, icv_sha256}

-- section 4.3, a key shorter than a block
short_key_case : hmac_sha256 (codes "Jefe") (codes "what do ya want for nothing?") ≡
    0x5B ∷ 0xDC ∷ 0xC1 ∷ 0x46 ∷ 0xBF ∷ 0x60 ∷ 0x75 ∷ 0x4E ∷ 0x6A ∷ 0x04 ∷ 0x24 ∷ 0x26 ∷ 0x08 ∷
    0x95 ∷ 0x75 ∷ 0xC7 ∷ 0x5A ∷ 0x00 ∷ 0x3F ∷ 0x08 ∷ 0x9D ∷ 0x27 ∷ 0x39 ∷ 0x83 ∷ 0x9D ∷ 0xEC ∷
    0x58 ∷ 0xB9 ∷ 0x64 ∷ 0xEC ∷ 0x38 ∷ 0x43 ∷ []
unfolding first_words schedule rounds compress hash_after digest_bytes sha256 hmac_sha256
short_key_case = refl

-- section 4.6, the first 128 bits
truncated_case : icv_sha256 (replicate 20 0x0C) (codes "Test With Truncation") ≡
    0xA3 ∷ 0xB6 ∷ 0x16 ∷ 0x74 ∷ 0x73 ∷ 0x10 ∷ 0x0E ∷ 0xE0 ∷ 0x6E ∷ 0x0C ∷ 0x79 ∷ 0x6C ∷ 0x29 ∷
    0x55 ∷ 0x55 ∷ 0x2B ∷ []
unfolding first_words schedule rounds compress hash_after digest_bytes sha256 hmac_sha256 icv_sha256
truncated_case = refl

-- section 4.7, a key longer than a block
long_key_case : hmac_sha256 (replicate 131 0xAA) (codes "Test Using Larger Than Block-Size Key - Hash Key First") ≡
    0x60 ∷ 0xE4 ∷ 0x31 ∷ 0x59 ∷ 0x1E ∷ 0xE0 ∷ 0xB6 ∷ 0x7F ∷ 0x0D ∷ 0x8A ∷ 0x26 ∷ 0xAA ∷ 0xCB ∷
    0xF5 ∷ 0xB7 ∷ 0x7F ∷ 0x8E ∷ 0x0B ∷ 0xC6 ∷ 0x21 ∷ 0x37 ∷ 0x28 ∷ 0xC5 ∷ 0x14 ∷ 0x05 ∷ 0x46 ∷
    0x04 ∷ 0x0F ∷ 0x0E ∷ 0xE3 ∷ 0x7F ∷ 0x54 ∷ []
unfolding first_words schedule rounds compress hash_after digest_bytes sha256 hmac_sha256
long_key_case = refl
