-- Key material is as many octets as are asked for.
use Rattle.std.proofs.Common.{◌≡◌, ℕ, zero, suc, ◌<◌, ◌≤◌, List, [], ◌∷◌, ◌++◌, length, take, arith}
use Rattle.std.specs.Int.{w32, to_be_bytes}
use Rattle.std.specs.Prelude.{slice_index}
use Rattle.std.specs.List.{AllByRecursion}
use Rattle.std.proofs.lemmas.List.{length-take-le}
use Rattle.sha2.specs.Sha256.{digest_bytes, final_hash, initial_hash_256, sha256}
use Rattle.mac.specs.Hmac.{hmac_sha256}
use Rattle.mac.specs.KeyMaterial.{prf_block, prf_blocks, prf_plus}
use Rattle.mac.proofs.KeyMaterialLemmas.{length-prf_blocks}

abbrev AreOctets : List ℕ → Type 0
AreOctets xs = AllByRecursion (λ octet. octet < 256) xs

octets_append : (a b : List ℕ) → AreOctets a → AreOctets b → AreOctets (a ++ b)
octets_append [] b fits more = more
octets_append (x ∷ a) b fits more = (fits.0, octets_append a b fits.1 more)

octets_take : (n : ℕ) (xs : List ℕ) → AreOctets xs → AreOctets (take n xs)
octets_take zero xs fits = tt
octets_take (suc n) [] fits = tt
octets_take (suc n) (x ∷ xs) fits = (fits.0, octets_take n xs fits.1)

word_octets : (n : ℕ) → AreOctets (to_be_bytes w32 n)
word_octets n = (omega arith, (omega arith, (omega arith, (omega arith, tt))))

digest_octets : (h : List ℕ) (n : ℕ) → AreOctets (digest_bytes h n)
unfolding digest_bytes
digest_octets h zero = tt
digest_octets h (suc n) = octets_append (digest_bytes h n) (to_be_bytes w32 (slice_index h n)) (digest_octets h n) (word_octets (slice_index h n))

hash_octets : (m : List ℕ) → AreOctets (sha256 m)
unfolding sha256
hash_octets m = digest_octets (final_hash initial_hash_256 m) 8

tag_octets : (key message : List ℕ) → AreOctets (hmac_sha256 key message)
unfolding hmac_sha256
tag_octets key message = hash_octets _

block_octets : (key seed : List ℕ) (i : ℕ) → AreOctets (prf_block key seed i)
unfolding prf_block
block_octets key seed zero = tt
block_octets key seed (suc i) = tag_octets key _

blocks_octets : (key seed : List ℕ) (n : ℕ) → AreOctets (prf_blocks key seed n)
unfolding prf_blocks
blocks_octets key seed zero = tt
blocks_octets key seed (suc n) = octets_append (prf_blocks key seed n) (prf_block key seed (suc n)) (blocks_octets key seed n) (block_octets key seed (suc n))

pub material_long : (key seed : List ℕ) (count : ℕ) → count ≤ 8160 → length (prf_plus key seed count) ≡ count
unfolding prf_plus
material_long key seed count few = length-take-le count (prf_blocks key seed 255) (omega (arith, length-prf_blocks key seed 255))

pub material_octets : (key seed : List ℕ) (count : ℕ) → AreOctets (prf_plus key seed count)
unfolding prf_plus
material_octets key seed count = octets_take count (prf_blocks key seed 255) (blocks_octets key seed 255)
