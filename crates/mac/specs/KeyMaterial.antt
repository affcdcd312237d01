-- prf+ over HMAC-SHA-256 (RFC 7296, section 2.13): as many octets as are asked for, up to 8160, from one key
-- and one seed.
use Rattle.std.specs.Prelude.{ℕ, zero, suc, List, [], ◌∷◌, ◌++◌, take}
use Rattle.mac.specs.Hmac.{hmac_sha256}

-- T1 = prf (K, S | 0x01), T2 = prf (K, T1 | S | 0x02), T3 = prf (K, T2 | S | 0x03) and so on, each over the
-- one before it; before T1 there is nothing
unfoldable pub prf_block : List ℕ → List ℕ → ℕ → List ℕ
prf_block key seed zero = []
prf_block key seed (suc i) = hmac_sha256 key (prf_block key seed i ++ seed ++ suc i ∷ [])

-- T1 | T2 | .. | Tn
unfoldable pub prf_blocks : List ℕ → List ℕ → ℕ → List ℕ
prf_blocks key seed zero = []
prf_blocks key seed (suc n) = prf_blocks key seed n ++ prf_block key seed (suc n)

-- the first octets of T1 | T2 | .. | T255, of which there are 8160: T256 would want a number past one octet
unfoldable pub prf_plus : List ℕ → List ℕ → ℕ → List ℕ
prf_plus key seed count = take count (prf_blocks key seed 255)
