-- What is made ready for a request, step by step; only private contracts cite this.
use Rattle.std.specs.Prelude.{◌≡◌, ℕ}
use Rattle.base.specs.Octets.{Octets}
use Rattle.sadb.specs.Database.{Database, IsFull, IsSpent, Reserves}
use Rattle.association.specs.declared.phase.Association.{Association}
use Rattle.association.specs.declared.purpose.FurtherChild.{FurtherChild}
use Rattle.association.specs.declared.purpose.Purpose.TheVariants.{CreateChild}
use Rattle.children.specs.declared.asking.Asked.{Asked}
use Rattle.association.specs.Issuing.{with_outgoing, new_request, IssuesNext}
use Rattle.association.specs.Ordering.{RefusesOrder}
use Rattle.association.specs.declared.fault.OrderFault.TheVariants as order
use Rattle.association.specs.declared.fault.OrderFault.{OrderFault}
use Rattle.association.specs.declared.fault.OrderFault.TheVariants.{Busy, NumbersSpent, TableFull, SpisSpent, TableMemory}

-- why an established IKE SA takes no request
abbrev pub RefusesRoom : Association → OrderFault → Type 0
RefusesRoom a Busy = RefusesOrder a order.Busy
RefusesRoom a NumbersSpent = RefusesOrder a order.NumbersSpent
RefusesRoom a fault = ⊥

-- why the table gives no SPI
abbrev pub GivesNoSpi : Database → OrderFault → Type 0
GivesNoSpi table TableFull = IsFull table
GivesNoSpi table SpisSpent = (¬ IsFull table) × IsSpent table
GivesNoSpi table TableMemory = (¬ IsFull table) × (¬ IsSpent table) × (table.room ≡ 0)
GivesNoSpi table fault = ⊥

-- what is kept of a Child SA that is asked for, under the SPI that the table gave
abbrev pub kept_child : ℕ → Asked → Octets → FurtherChild
kept_child spi asked nonce = record { child = record { spi = spi; local = asked.local; remote = asked.remote; extended = asked.extended }; nonce = nonce }

-- the SPI is reserved, and the request is outstanding
pub record IssuesFurther (asked : Asked) (nonce octets : Octets) (moment : ℕ) (old : Association) (table : Database) (new : Association) (new_table : Database) : Type 0 where
  pub spi : ℕ
  pub reserved : Reserves table spi new_table
  pub issued : IssuesNext old.outgoing (new_request octets (CreateChild (kept_child spi asked nonce)) moment) new.outgoing
  pub content : new ≡ with_outgoing old new.outgoing
