-- Which messages a Child SA is made of (RFC 7296 sections 1.2, 1.3.1 and 2.17).
use Rattle.std.specs.Prelude.{◌≡◌, ℕ, Some}
use Rattle.base.specs.Octets.{Octets}
use Rattle.wire.specs.Messages.{Spells}
use Rattle.wire.specs.declared.message.Message.{Message}
use Rattle.suite.specs.declared.fresh.Fresh.{Fresh}
use Rattle.suite.specs.declared.keys.Keys.{Keys}
use Rattle.sadb.specs.Database.{Database}
use Rattle.association.specs.declared.phase.Association.{Association}
use Rattle.association.specs.declared.phase.AuthSent.{AuthSent}
use Rattle.association.specs.declared.phase.Phase.TheVariants as phase
use Rattle.association.specs.declared.phase.Request.{Request}
use Rattle.moments.specs.Holding.{WasOutstanding}
use Rattle.effects.specs.Children.{AsksForChild, AsksForFurtherChild, MakesChild}
use Rattle.setup.specs.Configs.{Setup}
use Rattle.effects.specs.Taking.{Meaning}
use Rattle.effects.specs.declared.taking.Effect.{Effect}
use Rattle.ike.specs.Machines.{association_of, Held}
use Rattle.ike.specs.Moments.{WaitsAt}
use Rattle.ike.specs.Outputs.{asking_step, stepped_of}
use Rattle.ike.specs.Steps.{InputView, Start}
use Rattle.ike.specs.declared.output.IkeOutput.TheVariants as output
use Rattle.ike.specs.declared.output.MadeChild.{MadeChild}
use Rattle.ike.specs.declared.output.Stepped.{Stepped}

-- the datagram is a message that made this Child SA, of the IKE SA with its serial
pub record MakesChildOf (meaning : Meaning) (setup : Setup) (octets : Octets) (old : Held) (table : Database) (stepped : Stepped) (made : MadeChild) (new : Held) (new_table : Database) : Type 0 where
  pub message : Message
  pub spelled : Spells message octets
  pub number : made.number ≡ message.header.id
  pub was : Association
  pub serial : was.serial ≡ made.ike
  pub stood : association_of made.ike old.associations ≡ Some was
  pub is : Association
  pub stands : association_of made.ike new.associations ≡ Some is
  pub effect : Effect
  pub said : stepped ≡ stepped_of made.ike message.header.id effect
  pub makes : MakesChild meaning setup was table octets message effect made.serial is new_table

-- the IKE SA with this serial asks for its first Child SA by these octets
pub record AsksFirstChild (meaning : Meaning) (setup : Setup) (ike : ℕ) (next : Octets) (new : Held) : Type 0 where
  pub is : Association
  pub stands : association_of ike new.associations ≡ Some is
  pub asks : AsksForChild meaning setup next is

-- it waited for the response of IKE_AUTH before, and asked for the same
pub record WaitedBefore (ike : ℕ) (sent : AuthSent) (old : Held) : Type 0 where
  pub was : Association
  pub stood : association_of ike old.associations ≡ Some was
  pub waited : was.phase ≡ phase.AuthSent sent

-- or its keys are made now, and its request is sent
pub record AsksNow (ike : ℕ) (stepped : Stepped) : Type 0 where
  pub next : Octets
  pub said : stepped.output ≡ output.Request ike next
  pub keyed : stepped.trace.keyed ≡ Some ike

-- the IKE SA with this serial asks for an additional Child SA: its request is sent, and waits for its answer
pub record AsksForFurtherNow (body_of : Keys → Octets → Octets → Octets → Octets) (setup : Setup) (ike : ℕ) (stepped : Stepped) (new : Held) : Type 0 where
  pub number : ℕ
  pub octets : Octets
  pub said : stepped ≡ asking_step ike number octets
  pub is : Association
  pub stands : association_of ike new.associations ≡ Some is
  pub asks : AsksForFurtherChild body_of setup number octets is

-- a request of these octets and for this purpose was outstanding before
pub record FurtherWaited (ike number : ℕ) (request : Request) (old : Held) : Type 0 where
  pub was : Association
  pub stood : association_of ike old.associations ≡ Some was
  pub waited : WasOutstanding was number request

-- or it is asked for now, by a request whose Message ID was not outstanding
pub record FurtherOrdered (input : InputView) (old : Held) (ike number : ℕ) (request : Request) (stepped : Stepped) : Type 0 where
  pub place : ℕ
  pub fresh : Fresh
  pub is : input ≡ Start (Some ike) place fresh
  pub said : stepped ≡ asking_step ike number request.octets
  pub none_waited : (before : Request) → ¬ WaitsAt old ike number before
