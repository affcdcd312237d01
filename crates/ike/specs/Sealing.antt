-- What a step seals, and at which IKE SA it took a message (RFC 7296 sections 2.1, 2.3 and 3.14).
use Rattle.std.specs.Prelude.{◌≡◌, ◌⊎◌, ◌≤◌, ℕ, List, Option, Some}
use Rattle.base.specs.Octets.{Octets}
use Rattle.wire.specs.Messages.{Spells}
use Rattle.wire.specs.declared.message.Message.{Message as WireMessage}
use Rattle.wire.specs.declared.payload.Payload.{Payload}
use Rattle.suite.specs.declared.fresh.Fresh.{Fresh}
use Rattle.suite.specs.declared.key_record.KeyRecord.{KeyRecord}
use Rattle.suite.specs.declared.keys.Keys.{Keys}
use Rattle.exchange.specs.Headers.{keys_of, sent_header}
use Rattle.exchange.specs.Sealed.{IsSealed}
use Rattle.exchange.specs.declared.headers.Role.{Role}
use Rattle.sadb.specs.Database.{Database}
use Rattle.auth.specs.Windows.{peer_window}
use Rattle.association.specs.declared.phase.Association.{Association}
use Rattle.setup.specs.Configs.{Setup}
use Rattle.effects.specs.Taking.{Meaning, TakesMessage}
use Rattle.effects.specs.declared.taking.Effect.{Effect}
use Rattle.ike.specs.Machines.{association_of, keys_of_serial, Held}
use Rattle.ike.specs.Outputs.{reply_mark}
use Rattle.ike.specs.Steps.{InputView, Message, Start, Order, Secret, Tick}
use Rattle.ike.specs.declared.output.IkeOutput.{IkeOutput}
use Rattle.ike.specs.declared.output.IkeOutput.TheVariants as output
use Rattle.ike.specs.declared.output.Mark.{Mark}
use Rattle.ike.specs.declared.output.Stepped.{Stepped}

-- these are what is fresh to the step
abbrev pub IsFreshOf : InputView → Fresh → Type 0
IsFreshOf (Message from octets given) fresh = given ≡ fresh
IsFreshOf (Start serial place given) fresh = given ≡ fresh
IsFreshOf (Order what given) fresh = given ≡ fresh
IsFreshOf (Secret secret) fresh = ⊥
IsFreshOf (Tick moment) fresh = ⊥

-- A message goes out of a step. It is sealed with these fresh octets, under the keys of its IKE SA, which
-- are there before or after, and tells no wider window than this.
pub record SealsNow (body_of : Keys → Octets → Octets → Octets → Octets) (old new : Held) (window : ℕ) (fresh : Fresh) (m : Mark) (octets : Octets) : Type 0 where
  pub keys : KeyRecord
  pub keyed : (keys_of_serial m.ike old.associations ≡ Some keys) ⊎ (keys_of_serial m.ike new.associations ≡ Some keys)
  pub role : Role
  pub spi_i : ℕ
  pub spi_r : ℕ
  pub exchange : ℕ
  pub payloads : List Payload
  pub sealed : IsSealed body_of (keys_of role keys) fresh.seal (record { header = sent_header spi_i spi_r exchange role m.response m.number; payloads = payloads }) octets
  pub tells : peer_window payloads ≤ window

-- the octets are a response that is sent again, or are sealed now
abbrev pub IsRepeatedOrSealed : (Keys → Octets → Octets → Octets → Octets) → Held → Held → ℕ → Fresh → Mark → IkeOutput → Octets → Type 0
IsRepeatedOrSealed body_of old new window fresh m said octets = (said ≡ output.Repeat octets) ⊎ SealsNow body_of old new window fresh m octets

-- what goes out under keys is one of both, with what is fresh to the step
pub record GoesOutUnderKeys (body_of : Keys → Octets → Octets → Octets → Octets) (input : InputView) (old new : Held) (window : ℕ) (m : Mark) (said : IkeOutput) (octets : Octets) : Type 0 where
  pub fresh : Fresh
  pub own : IsFreshOf input fresh
  pub goes : IsRepeatedOrSealed body_of old new window fresh m said octets

-- what is told of a message that is matched, or is processed, at the IKE SA with this serial
abbrev pub TellsOfMessageAt : Stepped → ℕ → Type 0
TellsOfMessageAt stepped serial =
    ((child : Option ℕ) × (closed : Option ℕ) × (stepped.output ≡ output.Counted serial child closed))
    ⊎ ((number : ℕ) × (reply : Octets) × (closed : Option ℕ) × (stepped.output ≡ output.Reply reply closed) × (stepped.trace.sent ≡ reply_mark serial number))

-- the IKE SA with this serial took the message that the datagram is
pub record TakenBy (meaning : Meaning) (setup : Setup) (octets : Octets) (old : Held) (table : Database) (new : Held) (new_table : Database) (serial : ℕ) : Type 0 where
  pub message : WireMessage
  pub spelled : Spells message octets
  pub was : Association
  pub is : Association
  pub effect : Effect
  pub takes : TakesMessage meaning setup was table octets message effect is new_table
  pub stood : association_of serial old.associations ≡ Some was
  pub stands : is.serial ≡ was.serial → association_of serial new.associations ≡ Some is
