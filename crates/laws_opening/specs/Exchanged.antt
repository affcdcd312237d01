-- What IKE_SA_INIT exchanges (RFC 7296 sections 1.2 and 2.14): its two messages, and the keys.
use Rattle.std.specs.Prelude.{◌≢◌, false, None}
use Rattle.base.specs.Octets.{Octets}
use Rattle.wire.specs.declared.message.Message.{Message}
use Rattle.suite.specs.Callers.{IsSecret}
use Rattle.suite.specs.Keys.{ike_keys}
use Rattle.suite.specs.declared.choice.Chosen.{Chosen}
use Rattle.suite.specs.declared.fresh.Fresh.{Fresh}
use Rattle.suite.specs.declared.key_record.KeyRecord.{KeyRecord}
use Rattle.sa_init.specs.Messages.{answer_message, request_message}
use Rattle.effects.specs.Taking.{Meaning}

-- ---- the messages

-- the request, by what is fresh at the initiator: its SPI, the value of its key exchange, its nonce
abbrev pub asking_message : Meaning → Fresh → Message
asking_message meaning asking = request_message meaning.cipher meaning.group (meaning.public_value asking.secret) asking.spi None asking.nonce

-- the first proposal, which is the only one and has number 1
abbrev pub only_choice : Chosen
only_choice = record { place = 0; number = 1; extended = false }

-- the response, which accepts it, by what is fresh at the responder
abbrev pub answering_message : Meaning → Fresh → Fresh → Message
answering_message meaning asking answering =
    answer_message meaning.cipher meaning.group (meaning.public_value answering.secret) only_choice answering.nonce asking.spi answering.spi

-- the keys that follow from a shared secret (RFC 7296 section 2.14)
abbrev pub keys_from : Octets → Fresh → Fresh → KeyRecord
keys_from shared asking answering = ike_keys shared asking.nonce answering.nonce asking.spi answering.spi

-- What is asked of what is fresh, as the code's types have it: an SPI that isn't 0 (section 3.1), and a
-- secret of 32 octets.
pub record IsDrawn (fresh : Fresh) : Type 0 where
  pub nonzero : fresh.spi ≢ 0
  pub secret : IsSecret fresh.secret
