-- The commands that ask the peer something under an established IKE SA: a liveness check, a deletion of a
-- Child SA or of the IKE SA, or an additional child (RFC 7296 sections 1.3.1, 1.4, 1.4.1 and 2.4).
use Rattle.std.specs.Prelude.{◌≡◌, ℕ, Option, Some, None, slice_get, slice_set}
use Rattle.std.specs.List.{position}
use Rattle.base.specs.Octets.{Octets}
use Rattle.base.specs.declared.selector.Selector.{Selector}
use Rattle.suite.specs.declared.keys.Keys.{Keys}
use Rattle.sadb.specs.Database.{pair_at, Database}
use Rattle.sadb.specs.declared.pair.Pair.{Pair}
use Rattle.sadb.specs.declared.pair.State.{State}
use Rattle.sadb.specs.declared.pair.State.TheVariants.{Live, Deleting}
use Rattle.children.specs.declared.fault.MemoryFault.TheVariants as child
use Rattle.association.specs.declared.fault.MessageFault.TheVariants.{UnknownAssociation, WrongPhase}
use Rattle.association.specs.declared.phase.Association.{Association}
use Rattle.setup.specs.Configs.{Setup}
use Rattle.informational.specs.Asking.{Asks}
use Rattle.informational.specs.Ordering.{MarksFor}
use Rattle.association.specs.Ordering.{RefusesOrder}
use Rattle.association.specs.declared.outcome.Issued.{Issued}
use Rattle.association.specs.declared.fault.OrderFault.{OrderFault}
use Rattle.association.specs.declared.fault.OrderFault.TheVariants as order
use Rattle.informational.specs.declared.ordering.Order.{Order}
use Rattle.informational.specs.declared.ordering.Order.TheVariants as asked
use Rattle.create_child.specs.Asking.{AsksForFurther, RefusesFurther}
use Rattle.effects.specs.Sending.{SendsRequest}
use Rattle.ike.specs.Machines.{association_of, has_serial, Held}
use Rattle.ike.specs.Outputs.{asking_step}
use Rattle.ike.specs.Orders.{OrderView, Probe, DeleteChild, DeleteIke}
use Rattle.ike.specs.declared.fault.IkeFault.{IkeFault}
use Rattle.ike.specs.declared.fault.IkeFault.TheVariants as fault
use Rattle.ike.specs.declared.output.Stepped.{Stepped}

-- the IKE SA with this serial sends a request to its peer, and no other changes
pub record AsksAt (body_of : Keys → Octets → Octets → Octets → Octets) (setup : Setup) (ike : ℕ) (old : Held) (stepped : Stepped) (new : Held) : Type 0 where
  pub place : ℕ
  pub first : position (has_serial ike) old.associations ≡ Some place
  pub association : Association
  pub there : slice_get old.associations place ≡ Some association
  pub octets : Octets
  pub changed : Association
  pub sends : SendsRequest body_of setup association octets changed
  pub said : stepped ≡ asking_step ike association.outgoing.next octets
  pub content : new ≡ record old { associations = slice_set old.associations place changed }

-- it asks this; the pair of a Child SA that is to be deleted is Deleting from then on
pub record AsksThat (body_of : Keys → Octets → Octets → Octets → Octets) (setup : Setup) (ike : ℕ) (order : Order) (old : Held) (table : Database) (stepped : Stepped) (new : Held) (new_table : Database) : Type 0 where
  pub asks : AsksAt body_of setup ike old stepped new
  pub ordered : Asks body_of setup order asks.association asks.octets asks.changed
  pub marked : MarksFor order table new_table

-- The IKE SA of a Child SA that is Live asks that the child be deleted, by the SPI under which this end
-- receives.
pub record DeletesChild (body_of : Keys → Octets → Octets → Octets → Octets) (setup : Setup) (serial : ℕ) (old : Held) (table : Database) (stepped : Stepped) (new : Held) (new_table : Database) : Type 0 where
  pub pair : Pair
  pub there : pair_at table.pairs serial ≡ Some pair
  pub live : pair.state ≡ Live
  pub asks : AsksThat body_of setup pair.ike (asked.DeleteChild serial pair.inbound.association.spi) old table stepped new new_table

-- It asks for an additional Child SA with these selectors of this end's side and of the peer's, under an SPI
-- that the table gives.
pub record AsksFurther (body_of : Keys → Octets → Octets → Octets → Octets) (setup : Setup) (ike : ℕ) (local remote : Selector) (old : Held) (table : Database) (stepped : Stepped) (new : Held) (new_table : Database) : Type 0 where
  pub asks : AsksAt body_of setup ike old stepped new
  pub further : AsksForFurther body_of setup local remote asks.association table asks.octets asks.changed new_table

abbrev pub AsksFor : (Keys → Octets → Octets → Octets → Octets) → Setup → OrderView → Held → Database → Stepped → Held → Database → Type 0
AsksFor body_of setup (Probe ike) old table stepped new new_table = AsksThat body_of setup ike asked.Probe old table stepped new new_table
AsksFor body_of setup (DeleteChild serial) old table stepped new new_table = DeletesChild body_of setup serial old table stepped new new_table
AsksFor body_of setup (DeleteIke ike) old table stepped new new_table = AsksThat body_of setup ike asked.DeleteAssociation old table stepped new new_table

-- The IKE SA at this place asks this, and no other changes. Only private contracts cite this and the next.
pub record AsksThere (body_of : Keys → Octets → Octets → Octets → Octets) (setup : Setup) (place : ℕ) (order : Order) (old : Held) (table : Database) (issued : Issued) (new : Held) (new_table : Database) : Type 0 where
  pub association : Association
  pub there : slice_get old.associations place ≡ Some association
  pub changed : Association
  pub asks : Asks body_of setup order association issued.octets changed
  pub number : issued.number ≡ association.outgoing.next
  pub content : new ≡ record old { associations = slice_set old.associations place changed }
  pub marked : MarksFor order table new_table

pub record RefusesThere (place : ℕ) (old : Held) (o : OrderFault) : Type 0 where
  pub association : Association
  pub there : slice_get old.associations place ≡ Some association
  pub refuses : RefusesOrder association o

-- the same for an additional Child SA
pub record AsksFurtherThere (body_of : Keys → Octets → Octets → Octets → Octets) (setup : Setup) (place : ℕ) (local remote : Selector) (old : Held) (table : Database) (issued : Issued) (new : Held) (new_table : Database) : Type 0 where
  pub association : Association
  pub there : slice_get old.associations place ≡ Some association
  pub changed : Association
  pub asks : AsksForFurther body_of setup local remote association table issued.octets changed new_table
  pub number : issued.number ≡ association.outgoing.next
  pub content : new ≡ record old { associations = slice_set old.associations place changed }

pub record RefusesFurtherThere (place : ℕ) (old : Held) (table : Database) (f : OrderFault) : Type 0 where
  pub association : Association
  pub there : slice_get old.associations place ≡ Some association
  pub refuses : RefusesFurther association table f

abbrev pub fault_of_order : OrderFault → IkeFault
fault_of_order order.WrongPhase = fault.Message WrongPhase
fault_of_order order.Busy = fault.Busy
fault_of_order order.NumbersSpent = fault.NumbersSpent
fault_of_order order.TableFull = fault.TableFull
fault_of_order order.SpisSpent = fault.SpisSpent
fault_of_order order.TableMemory = fault.Memory child.Table
fault_of_order order.Memory = fault.Memory child.Message

-- there is no such IKE SA, or no additional Child SA can be asked for under it
abbrev pub RefusesFurtherAt : Option Association → Database → IkeFault → Type 0
RefusesFurtherAt None table reason = reason ≡ fault.Message UnknownAssociation
RefusesFurtherAt (Some a) table reason = (f : OrderFault) × (RefusesFurther a table f) × (reason ≡ fault_of_order f)

-- there is no such IKE SA, or its state refuses the command
abbrev pub RefusesAskingAt : Option Association → IkeFault → Type 0
RefusesAskingAt None reason = reason ≡ fault.Message UnknownAssociation
RefusesAskingAt (Some a) reason = (o : OrderFault) × (RefusesOrder a o) × (reason ≡ fault_of_order o)

-- by the state of the Child SA's pair: one that is being deleted is not deleted again
abbrev pub RefusesChildBy : State → Option Association → IkeFault → Type 0
RefusesChildBy Live a reason = RefusesAskingAt a reason
RefusesChildBy Deleting a reason = reason ≡ fault.Message WrongPhase

-- there is no such Child SA, or the state of its IKE SA refuses the command
abbrev pub RefusesChild : Option Pair → Held → IkeFault → Type 0
RefusesChild None old reason = reason ≡ fault.Message UnknownAssociation
RefusesChild (Some pair) old reason = RefusesChildBy pair.state (association_of pair.ike old.associations) reason

abbrev pub RefusesAsking : OrderView → Held → Database → IkeFault → Type 0
RefusesAsking (Probe ike) old table reason = RefusesAskingAt (association_of ike old.associations) reason
RefusesAsking (DeleteChild serial) old table reason = RefusesChild (pair_at table.pairs serial) old reason
RefusesAsking (DeleteIke ike) old table reason = RefusesAskingAt (association_of ike old.associations) reason
