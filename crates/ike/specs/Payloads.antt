-- What a message under keys seals, and to what it opens (RFC 7296 sections 3.1 and 3.14).
use Rattle.std.specs.Prelude.{◌≡◌, ℕ, Bool, List, Some, length}
use Rattle.base.specs.Octets.{AreOctets, Octets}
use Rattle.wire.specs.Messages.{Spells}
use Rattle.wire.specs.Payloads.{SpellsChain}
use Rattle.wire.specs.declared.message.Header.{Header}
use Rattle.wire.specs.declared.message.Message.{Message}
use Rattle.wire.specs.declared.payload.Payload.{Payload}
use Rattle.suite.specs.Sealing.{AreKeys}
use Rattle.suite.specs.declared.key_record.KeyRecord.{KeyRecord}
use Rattle.suite.specs.declared.keys.Keys.{Keys}
use Rattle.exchange.specs.Headers.{is_initiator, keys_of}
use Rattle.exchange.specs.Sealed.{plain_of_message, IsSealed}
use Rattle.exchange.specs.declared.headers.Role.{Role}
use Rattle.exchange.specs.declared.sealed.Plain.{Plain}
use Rattle.association.specs.Receiving.{Opening}

-- the header is that of a request, or a response to one, of this exchange and number
pub record IsHeaderOf (exchange : ℕ) (response : Bool) (number : ℕ) (h : Header) : Type 0 where
  pub exchange_is : h.exchange ≡ exchange
  pub response_is : h.flags.response ≡ response
  pub number_is : h.id ≡ number

-- The octets are such a message, and seal these payloads under the keys of the end that sent it, as its
-- flag I says (RFC 7296 sections 3.1 and 3.14).
pub record SealsPayloads (body_of : Keys → Octets → Octets → Octets → Octets) (keys : KeyRecord) (exchange : ℕ) (response : Bool) (number : ℕ) (payloads : List Payload) (octets : Octets) : Type 0 where
  pub header : Header
  pub header_is : IsHeaderOf exchange response number header
  pub sender : Role
  pub from_sender : header.flags.initiator ≡ is_initiator sender
  pub keyed : AreKeys (keys_of sender keys)
  pub fresh : Octets
  pub fresh_octets : AreOctets fresh
  pub fresh_long : length fresh ≡ 16
  pub sealed : IsSealed body_of (keys_of sender keys) fresh (record { header = header; payloads = payloads }) octets

-- The octets are such a message, and open to these payloads under the keys of the end that sent it.
pub record OpensToPayloads (plain_of : Opening) (keys : KeyRecord) (exchange : ℕ) (response : Bool) (number : ℕ) (payloads : List Payload) (octets : Octets) : Type 0 where
  pub message : Message
  pub spelled : Spells message octets
  pub header_is : IsHeaderOf exchange response number message.header
  pub sender : Role
  pub from_sender : message.header.flags.initiator ≡ is_initiator sender
  pub plain : Plain
  pub opened : plain_of_message plain_of (keys_of sender keys) octets message.payloads ≡ Some plain
  pub read : SpellsChain plain.first payloads plain.octets

-- the exchange is the same, and so are the payloads
pub record AreSame (exchange of : ℕ) (sealed opened : List Payload) : Type 0 where
  pub exchange_is : exchange ≡ of
  pub payloads_are : sealed ≡ opened

-- what is sealed opens to itself: where octets seal payloads and open to some, both are the same, in one
-- exchange
abbrev pub OpensToItself : (Keys → Octets → Octets → Octets → Octets) → Opening → Type 0
OpensToItself body_of plain_of = (keys : KeyRecord) (exchange of : ℕ) (response : Bool) (number : ℕ) (payloads read : List Payload) (octets : Octets)
    → SealsPayloads body_of keys exchange response number payloads octets
    → OpensToPayloads plain_of keys of response number read octets
    → AreSame exchange of payloads read
