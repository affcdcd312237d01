-- Which changes of a table leave every answer right.
use Rattle.std.specs.Prelude.{◌≡◌, ℕ, Some}
use Rattle.sadb.specs.Database.{pair_at, PairMap}
use Rattle.sadb.specs.declared.pair.Pair.{Pair}
use Rattle.sadb.specs.declared.pair.State.TheVariants.{Live}

-- a pair was there with these selectors, and was Live if it is
pub record WasThere (old : PairMap) (serial : ℕ) (pair : Pair) : Type 0 where
  pub was : Pair
  pub there : pair_at old serial ≡ Some was
  pub local : pair.local ≡ was.local
  pub remote : pair.remote ≡ was.remote
  pub live : pair.state ≡ Live → was.state ≡ Live

-- no pair comes, none comes back to life, and none gets other selectors
abbrev pub NoneComes : PairMap → PairMap → Type 0
NoneComes old new = (serial : ℕ) (pair : Pair) → pair_at new serial ≡ Some pair → WasThere old serial pair
