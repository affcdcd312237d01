-- The secrets of a responder's cookies (RFC 7296 section 2.6).
use Rattle.std.specs.Prelude.{◌≡◌, ◌==◌, ◌+◌, ℕ, Option, Some, None, if◌then◌else◌}
use Rattle.base.specs.Octets.{Octets}
use Rattle.mac.specs.Cookie.{cookie}

-- The secret under which cookies are made, the one before it, and how many there were so far.
pub record CookieSecrets : Type 0 where
  pub current : Octets
  pub previous : Option Octets
  pub version : ℕ

abbrev pub first_secret : Octets → CookieSecrets
first_secret secret = record { current = secret; previous = None; version = 1 }

-- the current secret becomes the previous one
abbrev pub changed : CookieSecrets → Octets → CookieSecrets
changed secrets secret = record { current = secret; previous = Some secrets.current; version = secrets.version + 1 }

-- the secret that a version names
abbrev pub secret_of : CookieSecrets → ℕ → Option Octets
secret_of secrets version =
    if version == secrets.version then Some secrets.current
    else if version + 1 == secrets.version then secrets.previous
    else None

-- a cookie under the current secret
abbrev pub new_cookie : CookieSecrets → Octets → Octets → ℕ → Octets
new_cookie secrets nonce address spi_i = cookie secrets.version secrets.current nonce address spi_i

-- the octets are the cookie of this nonce, address and SPI under the secret that their version names
pub record IsRightCookie (secrets : CookieSecrets) (nonce address : Octets) (spi_i : ℕ) (octets : Octets) : Type 0 where
  pub version : ℕ
  pub secret : Octets
  pub named : secret_of secrets version ≡ Some secret
  pub made : octets ≡ cookie version secret nonce address spi_i
