-- What an IKE SA was before a step, and how it came to be what it is after it.
use Rattle.std.specs.Prelude.{◌≡◌, ◌⊎◌, ℕ, List, Option, Some, None, slice_get, true}
use Rattle.base.specs.Octets.{Octets}
use Rattle.wire.specs.Messages.{Spells, SpellsPlainly}
use Rattle.wire.specs.declared.message.Message.{Message as WireMessage}
use Rattle.policy.specs.declared.entry.Entry.{Entry}
use Rattle.suite.specs.declared.fresh.Fresh.{Fresh}
use Rattle.suite.specs.declared.key_record.KeyRecord.{KeyRecord}
use Rattle.sadb.specs.Database.{Database}
use Rattle.sa_init.specs.Judging.{OfferView}
use Rattle.sa_init.specs.Messages.{request_message}
use Rattle.association.specs.Admitting.{Admits}
use Rattle.association.specs.declared.admitting.Admitted.{Admitted}
use Rattle.association.specs.declared.phase.Association.{Association}
use Rattle.association.specs.declared.phase.AuthSent.{AuthSent}
use Rattle.association.specs.declared.phase.InitSent.{InitSent}
use Rattle.association.specs.declared.phase.Phase.TheVariants as phase
use Rattle.moments.specs.Holding.{HoldsOn}
use Rattle.effects.specs.Taking.{Meaning, TakesMessage}
use Rattle.effects.specs.declared.taking.Effect.{Effect}
use Rattle.ike.specs.Machines.{association_of, setup_at, Held, Machine}
use Rattle.ike.specs.Outputs.{half_open_step}
use Rattle.ike.specs.Soundness.{At}
use Rattle.ike.specs.Steps.{InputView, Message, Start}
use Rattle.ike.specs.declared.output.Stepped.{Stepped}

-- it took the message that the step's datagram is, and stands at its place
pub record TookMessage (meaning : Meaning) (entries : List Entry) (view : InputView) (old : Machine) (table : Database) (new : Held) (new_table : Database) (was is : Association) : Type 0 where
  pub from : Octets
  pub octets : Octets
  pub fresh : Fresh
  pub came : view ≡ Message from octets fresh
  pub message : WireMessage
  pub spelled : Spells message octets
  pub effect : Effect
  pub takes : TakesMessage meaning (setup_at old entries fresh) was table octets message effect is new_table
  pub place : ℕ
  pub stood_at : At old.held place was
  pub stands_at : At new place is

-- how an IKE SA that was held before came to be what it is
pub data How (meaning : Meaning) (entries : List Entry) (view : InputView) (old : Machine) (table : Database) (new : Held) (new_table : Database) (was is : Association) : Type 0 where
  -- nothing of it changed
  Same : is ≡ was → How meaning entries view old table new new_table was is
  ByMessage : TookMessage meaning entries view old table new new_table was is → How meaning entries view old table new new_table was is
  -- it was established, and asked its peer for something
  ByOrder : (keys : KeyRecord) → was.phase ≡ phase.Established keys → is.phase ≡ was.phase → is.spi_i ≡ was.spi_i → How meaning entries view old table new new_table was is
  ByTick : (now : ℕ) → HoldsOn now was is → How meaning entries view old table new new_table was is

-- it was held before
pub record WasThere (meaning : Meaning) (entries : List Entry) (view : InputView) (old : Machine) (table : Database) (new : Held) (new_table : Database) (serial : ℕ) (is : Association) : Type 0 where
  pub was : Association
  pub stood : association_of serial old.held.associations ≡ Some was
  pub how : How meaning entries view old table new new_table was is

-- a request of IKE_SA_INIT made it, and its answer went out
pub record WasAdmitted (meaning : Meaning) (entries : List Entry) (view : InputView) (old : Machine) (stepped : Stepped) (serial : ℕ) (is : Association) : Type 0 where
  pub from : Octets
  pub octets : Octets
  pub fresh : Fresh
  pub came : view ≡ Message from octets fresh
  pub offer : OfferView
  pub spi_i : ℕ
  pub admitted : Admitted
  pub admits : Admits meaning.cipher meaning.group meaning.public_value meaning.shared_secret (setup_at old entries fresh).fresh old.moment serial offer spi_i octets admitted
  pub said : stepped ≡ half_open_step serial admitted.octets
  pub made : admitted.association ≡ is

-- an order of this end's began it
pub record WasBegun (view : InputView) (is : Association) : Type 0 where
  pub place : ℕ
  pub fresh : Fresh
  pub came : view ≡ Start None place fresh
  pub sent : InitSent
  pub waits : is.phase ≡ phase.InitSent sent

-- it came with the step, under the next serial and behind all others: made of a request, or begun by this end
pub record CameNow (meaning : Meaning) (entries : List Entry) (view : InputView) (old : Machine) (stepped : Stepped) (new : Held) (serial : ℕ) (is : Association) : Type 0 where
  pub next : serial ≡ old.held.next
  pub place : ℕ
  pub none_at : slice_get old.held.associations place ≡ None
  pub stands_at : At new place is
  pub how : WasAdmitted meaning entries view old stepped serial is ⊎ WasBegun view is

-- it waited for the response of IKE_SA_INIT, and held the same of itself
pub record WaitedBefore (was is : Association) (sent : InitSent) : Type 0 where
  pub before : InitSent
  pub waited : was.phase ≡ phase.InitSent before
  pub spi_i : is.spi_i ≡ was.spi_i
  pub secret : sent.secret ≡ before.secret
  pub nonce : sent.nonce ≡ before.nonce

-- it reads the response of IKE_SA_INIT now, which it keeps, and has keys with its own nonce
pub record ReadsNow (view : InputView) (before : InitSent) (told : AuthSent) : Type 0 where
  pub from : Octets
  pub fresh : Fresh
  pub came : view ≡ Message from told.first fresh
  pub message : WireMessage
  pub spelled : Spells message told.first
  pub response : message.header.flags.response ≡ true
  pub nonce : told.keys.nonce_i ≡ before.nonce

-- these octets are a request of IKE_SA_INIT with this SPI, this nonce, and the public value of this secret
pub record IsFirstRequest (meaning : Meaning) (spi : ℕ) (secret nonce octets : Octets) : Type 0 where
  pub cookie : Option Octets
  pub spelled : SpellsPlainly (request_message meaning.cipher meaning.group (meaning.public_value secret) spi cookie nonce) octets
