-- How each end of an IKE SA comes to its keys, step by step.
use Rattle.std.specs.Prelude.{◌≡◌, ℕ, Option, None, Some, false, true, slice_get}
use Rattle.base.specs.Octets.{Octets}
use Rattle.wire.specs.declared.message.Header.{Header}
use Rattle.suite.specs.Callers.{IsSecret}
use Rattle.suite.specs.declared.fresh.Fresh.{Fresh}
use Rattle.suite.specs.declared.key_record.KeyRecord.{KeyRecord}
use Rattle.suite.specs.declared.sealer.Cipher.{Cipher}
use Rattle.sa_init.specs.Judging.{OfferView}
use Rattle.association.specs.Admitting.{Admits}
use Rattle.association.specs.Phases.{keys_in}
use Rattle.association.specs.declared.admitting.Admitted.{Admitted}
use Rattle.association.specs.declared.phase.Association.{Association}
use Rattle.association.specs.declared.phase.InitSent.{InitSent}
use Rattle.association.specs.declared.phase.Phase.TheVariants as phase
use Rattle.effects.specs.Taking.{asker_of, Meaning}
use Rattle.ike.specs.Before.{IsFirstRequest}
use Rattle.ike.specs.LawCases.{EachDatagram, IsStep}
use Rattle.ike.specs.Records.{introduced, ComesToKeysAsInitiator, ComesToKeysAsResponder, Introduces, Introduction, SaysOfSender}
use Rattle.ike.specs.Soundness.{At}

-- ---- keys_come_by_what_is_read
abbrev pub KeysComeToTheInitiator : Type 0
KeysComeToTheInitiator = EachDatagram (λ from octets fresh it. (place : ℕ) (was is : Association) (sent : InitSent) (keys : KeyRecord) (own other : Introduction)
    → IsStep it
    → At it.old.held place was
    → was.phase ≡ phase.InitSent sent
    → At it.new.held place is
    → keys_in is.phase ≡ Some keys
    → IsSecret sent.secret
    → own ≡ record { spi = was.spi_i; public = it.meaning.public_value sent.secret; nonce = sent.nonce }
    → SaysOfSender (λ header. header.spi_r) octets other
    → ComesToKeysAsInitiator (asker_of it.meaning) own other keys)

abbrev pub KeysComeToTheResponder : Type 0
KeysComeToTheResponder = EachDatagram (λ from octets fresh it. (place : ℕ) (is : Association) (keys : KeyRecord) (own other : Introduction)
    → IsStep it
    → slice_get it.old.held.associations place ≡ None
    → At it.new.held place is
    → keys_in is.phase ≡ Some keys
    → IsSecret fresh.secret
    → own ≡ record { spi = fresh.spi; public = it.meaning.public_value fresh.secret; nonce = fresh.nonce }
    → SaysOfSender (λ header. header.spi_i) octets other
    → ComesToKeysAsResponder it.meaning.cipher it.meaning.group it.meaning.public_value it.meaning.shared_secret own other keys)

-- ---- first_messages_introduce_their_senders
abbrev pub FirstRequestsIntroduceTheirSenders : Type 0
FirstRequestsIntroduceTheirSenders = (meaning : Meaning) (spi : ℕ) (secret nonce octets : Octets)
    → IsFirstRequest meaning spi secret nonce octets
    → Introduces (λ header. header.spi_i) false octets (introduced meaning.public_value spi secret nonce)

abbrev pub FirstAnswersIntroduceTheirSenders : Type 0
FirstAnswersIntroduceTheirSenders = (cipher : Cipher) (group : ℕ) (public_value : Octets → Octets)
    (shared_secret : Octets → Octets → Option Octets) (fresh : Fresh) (moment serial : ℕ) (offer : OfferView)
    (spi_i : ℕ) (request : Octets) (admitted : Admitted)
    → Admits cipher group public_value shared_secret fresh moment serial offer spi_i request admitted
    → Introduces (λ header. header.spi_r) true admitted.octets (introduced public_value fresh.spi fresh.secret fresh.nonce)

abbrev pub OctetsIntroduceOneSender : Type 0
OctetsIntroduceOneSender = (spi_of : Header → ℕ) (octets : Octets) (one other : Introduction)
    → SaysOfSender spi_of octets one
    → SaysOfSender spi_of octets other
    → one ≡ other
