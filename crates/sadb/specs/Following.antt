-- What becomes of a table, however often it is called.
use Rattle.std.specs.Prelude.{◌≡◌, ◌≢◌, ◌+◌, ◌<◌, ◌≤◌, ◌⊎◌, ℕ, Some}
use Rattle.replay.specs.Window.{Seen, judgement}
use Rattle.replay.specs.declared.window.Judgement.TheVariants.{Fresh}
use Rattle.sadb.specs.declared.pair.Pair.{Pair}
use Rattle.sadb.specs.declared.pair.State.TheVariants.{Deleting}
use Rattle.sadb.specs.Database.{Database, IsReserved, pair_at}

-- the window may have taken sequence numbers since: no number that was not fresh is fresh again
pub record IsLaterWindow (was is : Seen) : Type 0 where
  pub size : is.size ≡ was.size
  pub spent : (n : ℕ) → judgement was n ≢ Fresh → judgement is n ≢ Fresh

-- The same SA pair, whatever was opened and sealed by it since: it never comes back to life, and no sequence
-- number comes back.
pub record IsSamePair (was is : Pair) : Type 0 where
  pub serial : is.serial ≡ was.serial
  pub ike : is.ike ≡ was.ike
  pub inbound : is.inbound.association ≡ was.inbound.association
  pub outbound : is.outbound.association ≡ was.outbound.association
  pub local : is.local ≡ was.local
  pub remote : is.remote ≡ was.remote
  pub state : was.state ≡ Deleting → is.state ≡ Deleting
  pub last : was.outbound.last ≤ is.outbound.last
  pub window : IsLaterWindow was.inbound.window is.inbound.window

pub record WasSamePair (old : Database) (serial : ℕ) (is : Pair) : Type 0 where
  pub was : Pair
  pub there : pair_at old.pairs serial ≡ Some was
  pub same : IsSamePair was is

-- an SA pair may still come with this SPI: it was reserved then, or not given yet
abbrev pub MayCome : Database → ℕ → Type 0
MayCome old spi = IsReserved old spi ⊎ (old.start + old.given ≤ spi)

-- A table old may have become the table new, by any number of calls.
pub record Follows (old new : Database) : Type 0 where
  pub start : new.start ≡ old.start
  pub given : old.given ≤ new.given
  pub next : old.next ≤ new.next
  -- what is reserved was reserved then, or was not given yet
  pub reserved : (spi : ℕ) → IsReserved new spi → MayCome old spi
  -- an SA pair under a serial that was given before is the one that was there
  pub old_pairs : (serial : ℕ) (pair : Pair) → pair_at new.pairs serial ≡ Some pair → serial < old.next → WasSamePair old serial pair
  -- the SPI of each later SA pair was reserved then, or was not given yet; where old is sound, no pair had it
  pub new_pairs : (serial : ℕ) (pair : Pair) → pair_at new.pairs serial ≡ Some pair → old.next ≤ serial → MayCome old pair.inbound.association.spi
