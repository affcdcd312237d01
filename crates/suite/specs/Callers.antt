-- What the caller's key agreement and proofs of identity are held to (RFC 7296, sections 2.14, 2.15, 3.4
-- and 3.8).
use Rattle.std.specs.Prelude.{◌≡◌, ◌≤◌, ℕ, List, length}
use Rattle.base.specs.Octets.{AreOctets}

-- a secret of an agreement: 32 octets
pub record IsSecret (secret : List ℕ) : Type 0 where
  pub whole : length secret ≡ 32
  pub octets : AreOctets secret

-- 1 to 1024 octets, which fit a KE or AUTH payload here
pub record FitsPayload (octets : List ℕ) : Type 0 where
  pub some : 1 ≤ length octets
  pub few : length octets ≤ 1024
