-- What a step leaves of the IKE SAs, and of the pairs in the table (RFC 4301 section 4.4.2).
use Rattle.std.specs.Prelude.{◌≡◌, ◌≢◌, ◌⊎◌, ℕ, Some}
use Rattle.sadb.specs.Database.{pair_at, Database, Marks, PairMap}
use Rattle.sadb.specs.declared.pair.Pair.{Pair}
use Rattle.sadb.specs.declared.pair.State.TheVariants.{Live, Deleting}
use Rattle.effects.specs.Pairs.{LeavesPairs}
use Rattle.ike.specs.Machines.{association_of, others_than, Held}

-- a pair of this IKE SA, which is Live
pub record IsOwnLive (pairs : PairMap) (ike serial : ℕ) : Type 0 where
  pub pair : Pair
  pub there : pair_at pairs serial ≡ Some pair
  pub its : pair.ike ≡ ike
  pub live : pair.state ≡ Live

-- it becomes Deleting, and nothing else of the table changes
pub record MarksOne (old : Database) (ike : ℕ) (new : Database) : Type 0 where
  pub serial : ℕ
  pub own : IsOwnLive old.pairs ike serial
  pub marked : Marks old serial new

-- the pair with this serial was there, and becomes Deleting
pub record BecameDeleting (old : Database) (serial : ℕ) (pair : Pair) : Type 0 where
  pub was : Pair
  pub stood : pair_at old.pairs serial ≡ Some was
  pub is : pair ≡ record was { state = Deleting }

-- At most one IKE SA changes, comes or goes, and only pairs of that one do: they are as they were, come or
-- go, or one becomes Deleting.
pub record ChangesOne (old new : Held) (table new_table : Database) : Type 0 where
  pub serial : ℕ
  -- all others stand as they stood, in their order
  pub others : others_than serial new.associations ≡ others_than serial old.associations
  pub each : (other : ℕ) → other ≢ serial → association_of other new.associations ≡ association_of other old.associations
  pub pairs : LeavesPairs table serial new_table ⊎ MarksOne table serial new_table
