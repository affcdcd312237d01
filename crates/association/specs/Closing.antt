-- The SPIs that an IKE SA holds for Child SAs that are still to come, and its end (RFC 7296 sections 1.4.1,
-- 2.4 and 2.21).
use Rattle.std.specs.Prelude.{◌≡◌, ◌⊎◌, ◌↔◌, ◌≤◌, ℕ, Option, Some, None}
use Rattle.requests.specs.Outgoing.{GivesUpRequests}
use Rattle.sadb.specs.Database.{Database, IsReserved, Releases, RemovesAllOf}
use Rattle.association.specs.Phases.{keys_in, spi_in}
use Rattle.association.specs.Purposes.{AwaitsChild, AwaitsSpi}
use Rattle.association.specs.declared.phase.Association.{Association}
use Rattle.association.specs.declared.phase.Phase.TheVariants.{Closed}

-- the inbound SPI is kept for a Child SA that this end asked for: the first one, or an additional one
abbrev pub HoldsSpi : Association → ℕ → Type 0
HoldsSpi a spi = (spi_in a.phase ≡ Some spi) ⊎ AwaitsSpi a.outgoing spi

-- some is, or none
pub record HoldsSomeSpi (a : Association) : Type 0 where
  pub spi : ℕ
  pub held : HoldsSpi a spi

pub record HoldsNoSpi (a : Association) : Type 0 where
  pub none : (spi : ℕ) → ¬ HoldsSpi a spi

-- each of them is reserved in the table, and kept for one Child SA alone
pub record HoldsReserved (a : Association) (table : Database) : Type 0 where
  pub reserved : (spi : ℕ) → HoldsSpi a spi → IsReserved table spi
  pub first : (spi : ℕ) → spi_in a.phase ≡ Some spi → ¬ AwaitsSpi a.outgoing spi
  pub one : (number other spi : ℕ) → AwaitsChild a.outgoing number spi → AwaitsChild a.outgoing other spi → number ≡ other

-- it is given up, if there is one
abbrev pub GivesUpSpi : Option ℕ → Database → Database → Type 0
GivesUpSpi None old new = new ≡ old
GivesUpSpi (Some spi) old new = Releases old spi new

-- all that are held are reserved no more, and no others
pub record GivesUpSpis (Held : ℕ → Type 0) (old new : Database) : Type 0 where
  pub reserved : (spi : ℕ) → IsReserved new spi ↔ (IsReserved old spi × (¬ Held spi))
  pub content : new ≡ record old { reserved = new.reserved; room = new.room }
  pub room : old.room ≤ new.room

-- From this time on it waits for no answer, and has no Child SA and no SPI for one. Its serial, its keys, and
-- what the peer may ask for again stay.
pub record Closes (old : Association) (old_table : Database) (moment : ℕ) (new : Association) (new_table : Database) : Type 0 where
  pub between : Database
  pub released : GivesUpSpis (HoldsSpi old) old_table between
  pub removed : RemovesAllOf between old.serial new_table
  pub requests : GivesUpRequests old.outgoing new.outgoing
  pub content : new ≡ record old { outgoing = new.outgoing; phase = Closed (keys_in old.phase) moment }
