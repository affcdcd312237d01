-- How each end of an IKE SA comes to its keys in IKE_SA_INIT (RFC 7296 sections 1.2 and 2.14).
use Rattle.std.specs.Prelude.{◌≡◌, ℕ, Bool, Option, Some}
use Rattle.base.specs.Octets.{Octets}
use Rattle.wire.specs.Messages.{Spells}
use Rattle.wire.specs.declared.message.Header.{Header}
use Rattle.wire.specs.declared.message.Message.{Message}
use Rattle.suite.specs.Callers.{IsSecret}
use Rattle.suite.specs.declared.agreement.Agreement as Agreement
use Rattle.suite.specs.declared.fresh.Fresh.{Fresh}
use Rattle.suite.specs.declared.key_record.KeyRecord.{KeyRecord}
use Rattle.suite.specs.declared.sealer.Cipher.{Cipher}
use Rattle.sa_init.specs.Judging.{OfferView}
use Rattle.sa_init.specs.Parts.{HasParts, PartsView}
use Rattle.association.specs.Phases.{keys_in}
use Rattle.association.specs.declared.phase.Association.{Association}
use Rattle.association.specs.Admitting.{Admits}
use Rattle.setup.specs.Configs.{Setup}
use Rattle.initial.specs.Reading.{Asker, ReadsResponse}
use Rattle.association.specs.declared.admitting.Admitted.{Admitted}
use Rattle.initial.specs.declared.reading.Continued.TheVariants as continued

-- what an IKE SA says of itself in IKE_SA_INIT: its SPI, the value of its key exchange and its nonce
pub record Introduction : Type 0 where
  pub spi : ℕ
  pub public : Octets
  pub nonce : Octets

-- what it says by its SPI, its secret and its nonce
abbrev pub introduced : (Octets → Octets) → ℕ → Octets → Octets → Introduction
introduced public_value spi secret nonce = record { spi = spi; public = public_value secret; nonce = nonce }

-- an initiator that agrees on keys as a caller of this type does, whatever else it means
abbrev pub agreeing_by : {C : Type 0} → Agreement.Ghosts C → Asker → Asker
agreeing_by agreement asker = record asker {
  public_value = agreement.public_value;
  shared_secret = agreement.shared_secret;
}

-- The call by which an end came to these keys as initiator: it read a response, and this is what its
-- IKE SA holds of itself, and what the response says of the other. That the first goes out, and stays
-- through a cookie, the calls that begin and go on say.
pub record ComesToKeysAsInitiator (asker : Asker) (own other : Introduction) (keys : KeyRecord) : Type 0 where
  pub setup : Setup
  pub old : Association
  pub new : Association
  pub number : ℕ
  pub octets : Octets
  pub response : Message
  pub request : Octets
  pub read : ReadsResponse asker setup old number octets response (continued.AsksAuth request) new
  pub keyed : keys_in new.phase ≡ Some keys
  pub secret : IsSecret read.sent.secret
  pub own_is : own ≡ record { spi = old.spi_i; public = asker.public_value read.sent.secret; nonce = read.sent.nonce }
  pub parts : PartsView
  pub complete : HasParts response.payloads parts
  pub other_is : other ≡ record { spi = response.header.spi_r; public = parts.public; nonce = parts.nonce }

-- The call by which an end came to these keys as responder: it took an offer, and this is what its answer
-- says of its IKE SA, and what the offer says of the other.
pub record ComesToKeysAsResponder (cipher : Cipher) (group : ℕ) (public_value : Octets → Octets) (shared_secret : Octets → Octets → Option Octets) (own other : Introduction) (keys : KeyRecord) : Type 0 where
  pub fresh : Fresh
  pub moment : ℕ
  pub serial : ℕ
  pub offer : OfferView
  pub spi_i : ℕ
  pub request : Octets
  pub admitted : Admitted
  pub admits : Admits cipher group public_value shared_secret fresh moment serial offer spi_i request admitted
  pub keyed : keys_in admitted.association.phase ≡ Some keys
  pub secret : IsSecret fresh.secret
  pub own_is : own ≡ record { spi = fresh.spi; public = public_value fresh.secret; nonce = fresh.nonce }
  pub other_is : other ≡ record { spi = spi_i; public = offer.public; nonce = offer.nonce }

-- The octets are a message with the parts of IKE_SA_INIT, and say this of their sender, whose SPI stands
-- there in the header.
pub record SaysOfSender (spi_of : Header → ℕ) (octets : Octets) (sender : Introduction) : Type 0 where
  pub message : Message
  pub spelled : Spells message octets
  pub parts : PartsView
  pub complete : HasParts message.payloads parts
  pub is : sender ≡ record { spi = spi_of message.header; public = parts.public; nonce = parts.nonce }

-- the octets are a request of IKE_SA_INIT or a response to one, by this flag, and say this of their sender
pub record Introduces (spi_of : Header → ℕ) (response : Bool) (octets : Octets) (sender : Introduction) : Type 0 where
  pub says : SaysOfSender spi_of octets sender
  pub flag : says.message.header.flags.response ≡ response
