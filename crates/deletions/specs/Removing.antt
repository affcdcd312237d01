-- SA pairs that go from the table (RFC 7296 section 1.4.1; RFC 4301 section 4.4.2).
use Rattle.std.specs.Prelude.{◌≡◌, ◌≢◌, ◌↔◌, ◌+◌, ◌≤◌, ℕ, Some, List, AllPairs, Contains, length}
use Rattle.sadb.specs.Database.{Database, pair_at}
use Rattle.sadb.specs.declared.pair.Pair.{Pair}

-- none stands twice
abbrev pub AreDistinct : List ℕ → Type 0
AreDistinct serials = AllPairs (λ a b. a ≢ b) serials

-- The SA pairs with these serials are there no more, and all others as they were. Of the rest of the table
-- only spare capacity changes, by one for each pair at most.
pub record RemovesNamed (old : Database) (serials : List ℕ) (new : Database) : Type 0 where
  pub kept : (serial : ℕ) (pair : Pair) → (pair_at new.pairs serial ≡ Some pair) ↔ ((pair_at old.pairs serial ≡ Some pair) × (¬ Contains serials serial))
  pub content : new ≡ record old { pairs = new.pairs; room = new.room }
  pub room : old.room ≤ new.room
  pub no_more : new.room ≤ old.room + length serials
