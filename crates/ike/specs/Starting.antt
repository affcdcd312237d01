-- The command to ask for a Child SA, with a new IKE SA or under an established one (RFC 7296 sections 1.2 and
-- 1.3.1).
use Rattle.std.specs.Prelude.{◌⊎◌, ◌≡◌, ◌==◌, ◌<◌, ℕ, Bool, Option, Some, None, List, length, slice_get, nat_le, if◌then◌else◌}
use Rattle.policy.specs.Decisions.{local_side, remote_side}
use Rattle.policy.specs.declared.entry.Action.{Action}
use Rattle.policy.specs.declared.entry.Action.TheVariants as action
use Rattle.policy.specs.declared.entry.Entry.{Entry}
use Rattle.suite.specs.declared.fresh.Fresh.{Fresh}
use Rattle.sadb.specs.Database.{Database, IsAsBefore, IsFull, IsSpent, Reserves}
use Rattle.sa_init.specs.Judging.{ASSOCIATION_LIMIT}
use Rattle.children.specs.declared.fault.MemoryFault.TheVariants as child
use Rattle.association.specs.AskedChildren.{AskedChildView}
use Rattle.initial.specs.Beginning.{begun, Begins}
use Rattle.setup.specs.Configs.{Setup}
use Rattle.effects.specs.Taking.{Meaning}
use Rattle.initial.specs.declared.beginning.Beginning.{Beginning}
use Rattle.ike.specs.Asking.{AsksFurther, RefusesFurtherAt}
use Rattle.ike.specs.Machines.{association_of, is_bad_spi, Held, SERIAL_END}
use Rattle.ike.specs.Outputs.{plain_step}
use Rattle.ike.specs.Receiving.{with_next}
use Rattle.ike.specs.declared.fault.IkeFault.{IkeFault}
use Rattle.ike.specs.declared.fault.IkeFault.TheVariants as fault
use Rattle.ike.specs.declared.output.IkeOutput.TheVariants.{Request}
use Rattle.ike.specs.declared.output.Stepped.{Stepped}

abbrev pub if_protects : Action → Entry → Option Entry
if_protects action.Protect entry = Some entry
if_protects _ entry = None

abbrev pub protecting : Option Entry → Option Entry
protecting None = None
protecting (Some entry) = if_protects entry.action entry

-- the entry of this number, where it protects
abbrev pub protecting_entry : List Entry → ℕ → Option Entry
protecting_entry entries place = protecting (slice_get entries place)

-- why no IKE SA is begun, before the table is asked
abbrev pub new_association_fault : Held → ℕ → Option IkeFault
new_association_fault old spi =
    if nat_le ASSOCIATION_LIMIT (length old.associations) then Some fault.Crowded
    else if old.next == SERIAL_END then Some fault.NumbersSpent
    else if is_bad_spi spi old.associations then Some fault.BadFresh
    else None

abbrev pub beginning_fault_of : Option Entry → Held → ℕ → Option IkeFault
beginning_fault_of None old spi = Some fault.Unprotected
beginning_fault_of (Some entry) old spi = new_association_fault old spi

abbrev pub beginning_fault : List Entry → ℕ → Fresh → Held → Option IkeFault
beginning_fault entries place fresh old = beginning_fault_of (protecting_entry entries place) old fresh.spi

-- the Child SA that is asked for by an entry, with all selectors of both its sides
abbrev pub child_by : Entry → ℕ → Bool → AskedChildView
child_by entry spi extended = record { spi = spi; local = local_side entry; remote = remote_side entry; extended = extended }

-- an IKE SA may be begun, with this serial, by this entry
pub record IsAllowed (entries : List Entry) (place : ℕ) (fresh : Fresh) (old : Held) (serial : ℕ) (entry : Entry) : Type 0 where
  pub none : beginning_fault entries place fresh old ≡ None
  pub protects : protecting_entry entries place ≡ Some entry
  pub next : serial ≡ old.next
  pub left : old.next < SERIAL_END

-- The table has a place and an SPI left. The next SPI is reserved for the Child SA, and the first request is
-- sent.
pub record BeginsNext (entry : Entry) (extended : Bool) (beginning : Beginning) (old : Held) (table : Database) (stepped : Stepped) (new : Held) (new_table : Database) : Type 0 where
  pub not_full : ¬ IsFull table
  pub not_spent : ¬ IsSpent table
  pub spi : ℕ
  pub reserved : Reserves table spi new_table
  pub said : stepped ≡ plain_step (Request old.next beginning.octets)
  pub content : new ≡ with_next old (begun old.next beginning (child_by entry spi extended))

pub record BeginsBy (meaning : Meaning) (setup : Setup) (place : ℕ) (old : Held) (table : Database) (stepped : Stepped) (new : Held) (new_table : Database) : Type 0 where
  pub entry : Entry
  pub allowed : IsAllowed setup.entries place setup.fresh old old.next entry
  pub beginning : Beginning
  pub begins : Begins meaning.cipher meaning.group meaning.public_value setup.fresh setup.moment beginning
  pub between : Database
  pub room : IsAsBefore table between
  pub done : BeginsNext entry setup.config.extended beginning old between stepped new new_table

-- the IKE SA with this serial asks for an additional Child SA by an entry, with all selectors of both its
-- sides (section 1.3.1)
pub record FurthersBy (meaning : Meaning) (setup : Setup) (ike place : ℕ) (old : Held) (table : Database) (stepped : Stepped) (new : Held) (new_table : Database) : Type 0 where
  pub entry : Entry
  pub protects : protecting_entry setup.entries place ≡ Some entry
  pub asks : AsksFurther meaning.body_of setup ike (local_side entry) (remote_side entry) old table stepped new new_table

-- a Child SA is asked for with a new IKE SA, or by the one with this serial
abbrev pub Starts : Meaning → Setup → Option ℕ → ℕ → Held → Database → Stepped → Held → Database → Type 0
Starts meaning setup None place old table stepped new new_table = BeginsBy meaning setup place old table stepped new new_table
Starts meaning setup (Some ike) place old table stepped new new_table = FurthersBy meaning setup ike place old table stepped new new_table

-- The table gives no SPI; or it would, and there is no memory: for the table, where it has no spare place,
-- or for the message.
abbrev pub GivesNoSpi : Database → IkeFault → Type 0
GivesNoSpi table fault.TableFull = IsFull table
GivesNoSpi table fault.SpisSpent = (¬ IsFull table) × IsSpent table
GivesNoSpi table (fault.Memory f) = (¬ IsFull table) × (¬ IsSpent table) × ((f ≡ child.Message) ⊎ ((f ≡ child.Table) × (table.room ≡ 0)))
GivesNoSpi table reason = ⊥

-- why no IKE SA is begun: as above; or since the table gives no SPI, or on allocation failure
abbrev pub RefusesBeginning : List Entry → Fresh → ℕ → Held → Database → IkeFault → Type 0
RefusesBeginning entries fresh place old table reason =
    (beginning_fault entries place fresh old ≡ Some reason)
    ⊎ ((beginning_fault entries place fresh old ≡ None) × GivesNoSpi table reason)

-- why no additional Child SA is asked for: no entry protects, or the IKE SA with this serial refuses it
abbrev pub RefusesFurtherBy : Option Entry → ℕ → Held → Database → IkeFault → Type 0
RefusesFurtherBy None ike old table reason = reason ≡ fault.Unprotected
RefusesFurtherBy (Some entry) ike old table reason = RefusesFurtherAt (association_of ike old.associations) table reason

abbrev pub RefusesStart : List Entry → Fresh → Option ℕ → ℕ → Held → Database → IkeFault → Type 0
RefusesStart entries fresh None place old table reason = RefusesBeginning entries fresh place old table reason
RefusesStart entries fresh (Some ike) place old table reason = RefusesFurtherBy (protecting_entry entries place) ike old table reason
