-- What an end proves, and its parts (RFC 7296 section 2.15).
use Rattle.std.specs.Prelude.{◌≡◌, ◌++◌}
use Rattle.base.specs.Octets.{Octets}
use Rattle.mac.specs.Hmac.{hmac_sha256}

-- a first message, the other end's nonce, and a MAC under a key of a text, one behind the other
abbrev pub what_is_proved : Octets → Octets → Octets → Octets → Octets
what_is_proved first nonce sk_p text = first ++ nonce ++ hmac_sha256 sk_p text

-- each proves a first message, a nonce, and a MAC under a key of a text, and these are the same
pub record HaveTheSameParts (first nonce sk_p text other another key content : Octets) : Type 0 where
  pub firsts : first ≡ other
  pub nonces : nonce ≡ another
  pub macs : hmac_sha256 sk_p text ≡ hmac_sha256 key content
