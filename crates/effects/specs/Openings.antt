-- What is sent under an IKE SA's keys, and what comes under its peer's, opens as the message that it is
-- (RFC 7296 sections 3.1 and 3.14).
use Rattle.std.specs.Prelude.{◌≡◌, ℕ, Bool, true, Some}
use Rattle.std.specs.List.{AllByRecursion}
use Rattle.base.specs.Octets.{Octets}
use Rattle.wire.specs.Messages.{Spells}
use Rattle.wire.specs.Payloads.{IsClear}
use Rattle.wire.specs.declared.message.Message.{Message}
use Rattle.suite.specs.Sealing.{AreKeys}
use Rattle.suite.specs.declared.key_record.KeyRecord.{KeyRecord}
use Rattle.suite.specs.declared.keys.Keys.{Keys}
use Rattle.exchange.specs.Headers.{is_initiator, keys_of}
use Rattle.exchange.specs.Sealed.{plain_of_message, IsSealed, OpensAgain}
use Rattle.exchange.specs.declared.headers.Role.{Role}
use Rattle.exchange.specs.declared.sealed.Plain.{Plain}
use Rattle.association.specs.Finding.{has_pair}
use Rattle.association.specs.Phases.{keys_in}
use Rattle.association.specs.Receiving.{Opening}
use Rattle.association.specs.declared.phase.Association.{Association}

-- What is sealed with these fresh octets under keys of 32 octets opens to what was sealed, as the law of a
-- cipher says.
pub record OpensWhatItSeals (body_of : Keys → Octets → Octets → Octets → Octets) (plain_of : Opening) (fresh : Octets) : Type 0 where
  pub again : (keys : Keys) (m : Message) (octets : Octets) → AreKeys keys → AllByRecursion IsClear m.payloads → IsSealed body_of keys fresh m octets → OpensAgain plain_of keys m octets

-- The octets open as this request or response of the end that has this role. They spell a message with the
-- IKE SA's SPIs, whose flags I and R say so, and whose only payload is an encrypted one that opens under
-- that end's keys.
pub record OpensAsMessage (plain_of : Opening) (a : Association) (sender : Role) (response : Bool) (number : ℕ) (octets : Octets) : Type 0 where
  pub message : Message
  pub spelled : Spells message octets
  pub spis : has_pair message.header a ≡ true
  pub from_sender : message.header.flags.initiator ≡ is_initiator sender
  pub is_response : message.header.flags.response ≡ response
  pub number_is : message.header.id ≡ number
  pub keys : KeyRecord
  pub keyed : keys_in a.phase ≡ Some keys
  pub plain : Plain
  pub opened : plain_of_message plain_of (keys_of sender keys) octets message.payloads ≡ Some plain
