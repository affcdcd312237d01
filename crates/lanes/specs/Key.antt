-- A key prepared for lanes: SHA-256 as it stands behind each pad (RFC 2104, section 4).
use Rattle.std.specs.Prelude.{◌≡◌, ℕ, List}
use Rattle.sha2.specs.Hashers.{Holds256}
use Rattle.sha2.specs.Sha256.{compress, initial_hash_256}
use Rattle.sha2.specs.declared.Sha256.{Sha256}
use Rattle.mac.specs.Hmac.{hmac_block, pad_with}

-- the state behind a block of octets
abbrev pub state_behind : List ℕ → List ℕ
state_behind block = compress initial_hash_256 block

-- the states behind the inner pad and behind the outer one
pub record HasStates (key inner outer : List ℕ) : Type 0 where
  pub inner_pad : inner ≡ state_behind (pad_with 0x36 (hmac_block key))
  pub outer_pad : outer ≡ state_behind (pad_with 0x5c (hmac_block key))

-- the hashers have taken the inner pad and the outer one
pub record HasHashers (key : List ℕ) (inner outer : Sha256) : Type 0 where
  pub inner_taken : Holds256 inner (pad_with 0x36 (hmac_block key))
  pub outer_taken : Holds256 outer (pad_with 0x5c (hmac_block key))
