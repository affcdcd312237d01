-- What keys and blocks are (FIPS 197, section 3).
use Rattle.std.specs.Prelude.{◌≡◌, ◌<◌, ℕ, List, length}
use Rattle.std.specs.List.{AllByRecursion}

-- 32 octets
pub record IsKey (key : List ℕ) : Type 0 where
  pub whole : length key ≡ 32
  pub octets : AllByRecursion (λ octet. octet < 256) key

-- 16 octets
pub record IsBlock (block : List ℕ) : Type 0 where
  pub whole : length block ≡ 16
  pub octets : AllByRecursion (λ octet. octet < 256) block
