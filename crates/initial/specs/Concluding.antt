-- What becomes of an IKE SA when IKE_AUTH is done, and of the table (RFC 7296 sections 1.2, 2.3 and 2.21.2).
use Rattle.std.specs.Prelude.{◌≡◌, ℕ, Bool, true, false, Option, Some, None, max}
use Rattle.requests.specs.Incoming.{PeerRequests}
use Rattle.requests.specs.Outgoing.{OwnRequests}
use Rattle.sadb.specs.Database.{Database, Installs, IsReserved, Releases}
use Rattle.sadb.specs.declared.pair.Pair.{Pair}
use Rattle.association.specs.Closing.{Closes, HoldsReserved}
use Rattle.association.specs.Phases.{established_of, established_spi}
use Rattle.association.specs.Outcomes.{closed_by, made_by}
use Rattle.association.specs.declared.outcome.Fate.{Fate}
use Rattle.association.specs.declared.outcome.Fate.TheVariants as fate
use Rattle.association.specs.declared.phase.Association.{Association}
use Rattle.association.specs.declared.phase.Request.{Request}
use Rattle.auth.specs.Windows.{IsWindow}
use Rattle.children.specs.Responding.{AddsNext, CanTake}
use Rattle.setup.specs.Configs.{Setup}
use Rattle.initial.specs.declared.concluding.Outcome.{Outcome}
use Rattle.initial.specs.declared.concluding.Outcome.TheVariants as outcome

-- A Child SA is added, if there is one: for the SPI that was reserved for it, which is given up otherwise, or
-- for the next one.
abbrev pub AddsChild : Database → Option ℕ → Option Pair → Option ℕ → Database → Type 0
AddsChild old None None None new = new ≡ old
AddsChild old None (Some pair) (Some serial) new = AddsNext old pair serial new
AddsChild old (Some spi) None None new = Releases old spi new
AddsChild old (Some spi) (Some pair) (Some serial) new = Installs old spi pair serial new
AddsChild old spi pair child new = ⊥

-- The window of each end is what it told, and never less than it was.
abbrev pub widened_incoming : ℕ → PeerRequests → PeerRequests
widened_incoming window r = record r { size = max window r.size }

abbrev pub widened_outgoing : ℕ → OwnRequests Request → OwnRequests Request
widened_outgoing window r = record r { window = max window r.window }

-- this end's window and the peer's
abbrev pub widened : ℕ → ℕ → Association → Association
widened own peers a = record a { incoming = widened_incoming own a.incoming; outgoing = widened_outgoing peers a.outgoing }

abbrev pub established : Association → Association
established a = record a { phase = established_of a.phase }

pub record ClosesBy (setup : Setup) (old : Association) (table : Database) (came : Fate) (new : Association) (new_table : Database) : Type 0 where
  pub closed : came ≡ fate.Closed
  pub over : Closes old table setup.moment new new_table

pub record EstablishesBy (setup : Setup) (old : Association) (table : Database) (pair : Option Pair) (window : ℕ) (came : Fate) (new : Association) (new_table : Database) : Type 0 where
  pub stands : closed_by came ≡ false
  pub added : AddsChild table (established_spi old.phase) pair (made_by came) new_table
  pub content : new ≡ widened setup.config.window window (established old)

abbrev pub ConcludesBy : Setup → Association → Database → Outcome → Fate → Association → Database → Type 0
ConcludesBy setup old table outcome.Closes came new new_table = ClosesBy setup old table came new new_table
ConcludesBy setup old table (outcome.Establishes pair window) came new new_table = EstablishesBy setup old table pair window came new new_table

abbrev pub is_closing : Outcome → Bool
is_closing outcome.Closes = true
is_closing (outcome.Establishes pair window) = false

-- the table can take the Child SA
abbrev pub CanAdd : Database → Option ℕ → Option Pair → Type 0
CanAdd table None None = Unit {0}
CanAdd table None (Some pair) = CanTake table pair
CanAdd table (Some spi) None = IsReserved table spi
CanAdd table (Some spi) (Some pair) = IsReserved table spi × (pair.inbound.association.spi ≡ spi)

abbrev pub CanConclude : Association → Database → Outcome → Type 0
CanConclude a table outcome.Closes = HoldsReserved a table
CanConclude a table (outcome.Establishes pair window) = IsWindow window × CanAdd table (established_spi a.phase) pair
