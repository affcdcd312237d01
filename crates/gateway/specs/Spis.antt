-- An inbound SPI names one SA pair for ever (RFC 4301 section 4.4.2; RFC 4303 section 2.1).
use Rattle.std.specs.Prelude.{◌≡◌, ◌≤◌, ℕ, Some, List, slice_get}
use Rattle.sadb.specs.Database.{HasInbound, IsSoundTable}
use Rattle.sadb.specs.Following.{Follows}
use Rattle.gateway.specs.Histories.{Passage}
use Rattle.gateway.specs.States.{State}

-- Over these steps an SPI under which one SA pair receives is never that of another, even if the pair has
-- gone meanwhile. So a late ESP packet of a deleted Child SA reaches no other one. Each later table follows
-- each earlier one: a pair keeps its keys, SPIs and selectors, one that is Deleting stays so, and no
-- sequence number comes back.
pub record AnSpiNamesOnePair {C : Type 0} (old : State C) (passages : List (Passage C)) (new : State C) : Type 0 where
  -- before two steps
  pub between : (place later spi serial other : ℕ) (p q : Passage C) → place ≤ later → slice_get passages place ≡ Some p → slice_get passages later ≡ Some q
      → HasInbound p.before.table.pairs spi serial → HasInbound q.before.table.pairs spi other → other ≡ serial
  -- before a step, and after the list
  pub last : (place spi serial other : ℕ) (p : Passage C) → slice_get passages place ≡ Some p
      → HasInbound p.before.table.pairs spi serial → HasInbound new.table.pairs spi other → other ≡ serial
  -- before the list, and before a step
  pub begun : (place spi serial other : ℕ) (p : Passage C) → slice_get passages place ≡ Some p
      → HasInbound old.table.pairs spi serial → HasInbound p.before.table.pairs spi other → other ≡ serial
  -- before the list, and after it; the table is to be sound, as that of each gateway is, since the list may
  -- have no step that tells so
  pub whole : (spi serial other : ℕ) → IsSoundTable old.table
      → HasInbound old.table.pairs spi serial → HasInbound new.table.pairs spi other → other ≡ serial
  -- the tables themselves, in the same order
  pub steps : (place later : ℕ) (p q : Passage C) → place ≤ later → slice_get passages place ≡ Some p → slice_get passages later ≡ Some q → Follows p.before.table q.before.table
  pub rest : (place : ℕ) (p : Passage C) → slice_get passages place ≡ Some p → Follows p.before.table new.table
  pub follows : IsSoundTable old.table → Follows old.table new.table
