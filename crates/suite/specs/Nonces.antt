-- Nonces (RFC 7296, section 3.9).
use Rattle.std.specs.Prelude.{◌≡◌, ◌≤◌, ◌-◌, ℕ, List, ◌++◌, length, take, replicate}
use Rattle.wire.specs.Numbers.{NONCE_LEAST, NONCE_LIMIT}

-- the data of a nonce has 16 to 256 octets
pub record IsNonce (nonce : List ℕ) : Type 0 where
  pub some : NONCE_LEAST ≤ length nonce
  pub few : length nonce ≤ NONCE_LIMIT

-- how a nonce is kept: with zeros behind it, up to the length of the longest
abbrev pub octets_kept : List ℕ → List ℕ
octets_kept nonce = nonce ++ replicate (NONCE_LIMIT - length nonce) 0

-- so many first octets are a nonce, and the others are zeros
pub record IsFilled (octets : List ℕ) (len : ℕ) : Type 0 where
  pub some : NONCE_LEAST ≤ len
  pub few : len ≤ NONCE_LIMIT
  pub whole : length octets ≡ NONCE_LIMIT
  pub zeros : octets ≡ octets_kept (take len octets)
