-- A request for an additional Child SA (RFC 7296 sections 1.3.1 and 2.17).
use Rattle.std.specs.Prelude.{◌≡◌, ℕ}
use Rattle.base.specs.Octets.{Octets}
use Rattle.base.specs.declared.selector.Selector.{Selector}
use Rattle.wire.specs.Numbers.{CREATE_CHILD_SA}
use Rattle.suite.specs.declared.key_record.KeyRecord.{KeyRecord}
use Rattle.suite.specs.declared.keys.Keys.{Keys}
use Rattle.exchange.specs.Headers.{keys_of}
use Rattle.exchange.specs.Sealed.{IsSealed}
use Rattle.requests.specs.Outgoing.{MayIssue, OwnRequests}
use Rattle.sadb.specs.Database.{Database, IsAsBefore, IsFull, IsSpent, Reserves}
use Rattle.association.specs.AskedChildren.{asked_of}
use Rattle.association.specs.Purposes.{AwaitsDeletion}
use Rattle.association.specs.declared.phase.Association.{Association}
use Rattle.association.specs.declared.phase.Phase.TheVariants as phase
use Rattle.association.specs.declared.phase.Request.{Request}
use Rattle.association.specs.declared.purpose.FurtherChild.{FurtherChild}
use Rattle.association.specs.declared.purpose.Purpose.TheVariants.{CreateChild}
use Rattle.children.specs.Asking.{child_request}
use Rattle.association.specs.Issuing.{with_outgoing, new_request, IssuesNext}
use Rattle.setup.specs.Configs.{Setup}
use Rattle.association.specs.Sending.{request_message}
use Rattle.association.specs.Phases.{IsEstablished}
use Rattle.association.specs.Ordering.{RefusesOrder}
use Rattle.association.specs.declared.fault.OrderFault.TheVariants as order
use Rattle.further.specs.Payloads.{further_payloads}
use Rattle.association.specs.declared.fault.OrderFault.{OrderFault}
use Rattle.association.specs.declared.fault.OrderFault.TheVariants.{WrongPhase, Busy, NumbersSpent, TableFull, SpisSpent, TableMemory, Memory}

-- the Child SA that is asked for, and the nonce of its request
abbrev pub wanted : Setup → ℕ → Selector → Selector → FurtherChild
wanted setup spi local remote = record {
  child = record { spi = spi; local = local; remote = remote; extended = setup.config.extended };
  nonce = setup.fresh.nonce;
}

-- The next SPI is reserved for the Child SA, and its request goes out under the next Message ID and waits for
-- its answer. None goes out while one to delete the IKE SA waits for its own.
pub record AsksForFurther (body_of : Keys → Octets → Octets → Octets → Octets) (setup : Setup) (local remote : Selector) (old : Association) (table : Database) (octets : Octets) (new : Association) (new_table : Database) : Type 0 where
  pub keys : KeyRecord
  pub established : old.phase ≡ phase.Established keys
  pub not_deleting : ¬ AwaitsDeletion old.outgoing
  -- the table gives an SPI
  pub not_full : ¬ IsFull table
  pub not_spent : ¬ IsSpent table
  pub between : Database
  pub room : IsAsBefore table between
  pub spi : ℕ
  pub reserved : Reserves between spi new_table
  pub sealed : IsSealed body_of (keys_of old.role keys) setup.fresh.seal
      (request_message old CREATE_CHILD_SA old.outgoing.next (further_payloads (child_request (asked_of (wanted setup spi local remote).child)) setup.fresh.nonce)) octets
  pub outgoing : OwnRequests Request
  pub issued : IssuesNext old.outgoing (new_request octets (CreateChild (wanted setup spi local remote)) setup.moment) outgoing
  pub content : new ≡ with_outgoing old outgoing

-- a request may go out under the IKE SA
pub record MayAsk (a : Association) : Type 0 where
  pub established : IsEstablished a.phase
  pub not_deleting : ¬ AwaitsDeletion a.outgoing
  pub allowed : MayIssue a.outgoing

-- why none does, each where those before it don't apply
abbrev pub RefusesFurther : Association → Database → OrderFault → Type 0
RefusesFurther a table WrongPhase = RefusesOrder a order.WrongPhase
RefusesFurther a table Busy = RefusesOrder a order.Busy
RefusesFurther a table NumbersSpent = RefusesOrder a order.NumbersSpent
RefusesFurther a table TableFull = MayAsk a × IsFull table
RefusesFurther a table SpisSpent = MayAsk a × (¬ IsFull table) × IsSpent table
RefusesFurther a table TableMemory = MayAsk a × (¬ IsFull table) × (¬ IsSpent table) × (table.room ≡ 0)
RefusesFurther a table Memory = MayAsk a × (¬ IsFull table) × (¬ IsSpent table)
