-- The headers of messages that are sent (RFC 7296 section 3.1).
use Rattle.std.specs.Prelude.{ℕ, Bool, true, false}
use Rattle.suite.specs.Keys.{initiator_keys, responder_keys}
use Rattle.suite.specs.declared.key_record.KeyRecord.{KeyRecord}
use Rattle.suite.specs.declared.keys.Keys.{Keys}
use Rattle.wire.specs.declared.message.Header.{Header}
use Rattle.exchange.specs.declared.headers.Role.{Role}
use Rattle.exchange.specs.declared.headers.Role.TheVariants.{Initiator, Responder}

abbrev pub is_initiator : Role → Bool
is_initiator Initiator = true
is_initiator Responder = false

abbrev pub other_role : Role → Role
other_role Initiator = Responder
other_role Responder = Initiator

-- the keys of what the end of this role sends (section 2.14)
abbrev pub keys_of : Role → KeyRecord → Keys
keys_of Initiator keys = initiator_keys keys
keys_of Responder keys = responder_keys keys

-- Version 2.0. The flag I tells the IKE SA's original initiator, the flag R a response; the flag V is sent
-- clear.
abbrev pub sent_header : ℕ → ℕ → ℕ → Role → Bool → ℕ → Header
sent_header spi_i spi_r exchange sender response id =
    record {
      spi_i = spi_i;
      spi_r = spi_r;
      minor = 0;
      exchange = exchange;
      flags = record { initiator = is_initiator sender; version = false; response = response };
      id = id;
    }
