-- Messages that always have a spelling, by what their fields allow and by their size (RFC 7296 section 3).
use Rattle.std.specs.Prelude.{◌<◌, ◌≤◌, ◌+◌, ◌^◌, ℕ, Option, Some, None}
use Rattle.base.specs.Octets.{Octets}
use Rattle.std.specs.List.{AllByRecursion, sum_by}
use Rattle.wire.specs.Messages.{Spells}
use Rattle.wire.specs.Numbers.{HEADER_LENGTH, KEY_EXCHANGE_LIMIT, MESSAGE_LIMIT, NONCE_LEAST, NONCE_LIMIT}
use Rattle.wire.specs.Sizes.{size_of, FitsData, FitsFields, FitsHeaderFields}
use Rattle.wire.specs.declared.message.Message.{Message}
use Rattle.suite.specs.Nonces.{IsNonce}
use Rattle.suite.specs.declared.sealer.Cipher.{Cipher}
use Rattle.sa_init.specs.Judging.{OfferView}

-- header and payloads have what their fields allow, and the size is within the limit
pub record FitsMessage (m : Message) : Type 0 where
  pub header : FitsHeaderFields m.header
  pub payloads : AllByRecursion FitsFields m.payloads
  pub short : HEADER_LENGTH + sum_by size_of m.payloads ≤ MESSAGE_LIMIT

-- some octets spell the message, as those that were decoded do
pub record IsSpelled (m : Message) : Type 0 where
  pub octets : Octets
  pub spelled : Spells m octets

abbrev pub FitsKeyLength : Option ℕ → Type 0
FitsKeyLength None = Unit {0}
FitsKeyLength (Some bits) = bits < 2 ^ 16

-- a cipher and a group have numbers of 16 bits (section 3.3.2), and so has a key length (section 3.3.5)
pub record FitsTransforms (cipher : Cipher) (group : ℕ) : Type 0 where
  pub id : cipher.id < 2 ^ 16
  pub key_length : FitsKeyLength cipher.key_length
  pub number : group < 2 ^ 16

-- 1 to 1024 octets, as a KE has them here (section 3.4)
abbrev pub FitsPublic : Octets → Type 0
FitsPublic public = FitsData 1 KEY_EXCHANGE_LIMIT public

-- 16 to 256 octets (section 3.9)
abbrev pub FitsNonce : Octets → Type 0
FitsNonce nonce = FitsData NONCE_LEAST NONCE_LIMIT nonce

-- at most 64 octets (section 2.6)
abbrev pub FitsCookie : Option Octets → Type 0
FitsCookie None = Unit {0}
FitsCookie (Some octets) = FitsData 0 64 octets

-- an offer with a nonce of 16 to 256 octets (section 3.9) and a number from 1 on (section 3.3.1), as a
-- message has them
pub record FitsOffer (offer : OfferView) : Type 0 where
  pub ni : IsNonce offer.nonce
  pub number : 1 ≤ offer.chosen.number
