-- The answer to an offer, and the keys of both ends (RFC 7296 section 2.14).
use Rattle.std.specs.Prelude.{◌≡◌, ℕ, Option, Some}
use Rattle.base.specs.Octets.{Octets}
use Rattle.wire.specs.Messages.{SpellsPlainly}
use Rattle.suite.specs.Keys.{ike_keys}
use Rattle.suite.specs.declared.fresh.Fresh.{Fresh}
use Rattle.suite.specs.declared.sealer.Cipher.{Cipher}
use Rattle.sa_init.specs.Judging.{OfferView}
use Rattle.sa_init.specs.Messages.{answer_message}
use Rattle.sa_init.specs.declared.answers.Agreed.{Agreed}

-- The answer to an offer, and the keys that follow from it and from what is fresh (section 2.14).
pub record IsAnswer (cipher : Cipher) (group : ℕ) (public_value : Octets → Octets) (shared_secret : Octets → Octets → Option Octets) (offer : OfferView) (spi_i : ℕ) (fresh : Fresh) (agreed : Agreed) : Type 0 where
  pub shared : Octets
  pub agrees : shared_secret fresh.secret offer.public ≡ Some shared
  pub keys : agreed.record ≡ ike_keys shared offer.nonce fresh.nonce spi_i fresh.spi
  pub spelled : SpellsPlainly (answer_message cipher group (public_value fresh.secret) offer.chosen fresh.nonce spi_i fresh.spi) agreed.octets
