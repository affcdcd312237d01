-- What an end sends under the SPIs of an IKE SA (RFC 7296 section 3.1).
use Rattle.std.specs.Prelude.{ℕ, true, false, List}
use Rattle.wire.specs.declared.message.Message.{Message}
use Rattle.wire.specs.declared.payload.Payload.{Payload}
use Rattle.exchange.specs.Headers.{sent_header}
use Rattle.association.specs.declared.phase.Association.{Association}

-- a request under the IKE SA's SPIs, from its own role
abbrev pub request_message : Association → ℕ → ℕ → List Payload → Message
request_message a exchange number payloads = record {
  header = sent_header a.spi_i a.spi_r exchange a.role false number;
  payloads = payloads;
}

-- an answer under the IKE SA's SPIs, from its own role
abbrev pub reply_message : Association → ℕ → ℕ → List Payload → Message
reply_message a exchange number payloads = record {
  header = sent_header a.spi_i a.spi_r exchange a.role true number;
  payloads = payloads;
}
