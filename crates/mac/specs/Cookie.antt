-- The cookie of a responder that keeps no state (RFC 7296, section 2.6).
use Rattle.std.specs.Prelude.{ℕ, List, ◌++◌}
use Rattle.std.specs.Int.{w32, w64, to_be_bytes}
use Rattle.sha2.specs.Sha256.{sha256}

-- <version of the secret> | Hash (Ni | IPi | SPIi | <secret>), with the version in 4 octets and the SPI in 8
unfoldable pub cookie : ℕ → List ℕ → List ℕ → List ℕ → ℕ → List ℕ
cookie version secret nonce address spi_i =
    to_be_bytes w32 version ++ sha256 (nonce ++ address ++ to_be_bytes w64 spi_i ++ secret)
