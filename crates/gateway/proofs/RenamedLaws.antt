-- What lemmas on tables and on single IKE SAs say of a renaming.
use Rattle.std.proofs.Common.{◌≡◌, ℕ}
use Rattle.std.specs.FinMap as map
use Rattle.std.specs.Option.{option_map}
use Rattle.base.specs.Octets.{Octets}
use Rattle.base.specs.declared.selector.Selector.{Selector}
use Rattle.wire.specs.declared.message.Message.{Message}
use Rattle.suite.specs.declared.keys.Keys.{Keys}
use Rattle.sadb.specs.Database.{pair_at, Database, PairMap}
use Rattle.sadb.specs.declared.pair.Pair.{Pair}
use Rattle.association.specs.Closing.{Closes}
use Rattle.association.specs.declared.phase.Association.{Association}
use Rattle.setup.specs.Configs.{Setup}
use Rattle.informational.specs.Asking.{Asks}
use Rattle.informational.specs.declared.ordering.Order.{Order}
use Rattle.create_child.specs.Asking.{AsksForFurther}
use Rattle.effects.specs.Taking.{Meaning, TakesMessage}
use Rattle.effects.specs.declared.taking.Effect.{Effect}
use Rattle.gateway.specs.Renaming.{renamed_association, renamed_pair, renamed_pairs, renamed_table}

-- of the SA pairs in a table
pub record PairLaws (r : ℕ → ℕ) : Type 0 where
  pub at : (pairs : PairMap) (serial : ℕ) → pair_at (renamed_pairs r pairs) serial ≡ option_map (renamed_pair r) (pair_at pairs serial)
  pub insert : (pairs : PairMap) (serial : ℕ) (pair : Pair) → renamed_pairs r (map.insert pairs serial pair) ≡ map.insert (renamed_pairs r pairs) serial (renamed_pair r pair)
  pub remove : (pairs : PairMap) (serial : ℕ) → renamed_pairs r (map.remove pairs serial) ≡ map.remove (renamed_pairs r pairs) serial
  pub count : (pairs : PairMap) → map.len (renamed_pairs r pairs) ≡ map.len pairs

-- of one IKE SA and a table
pub record AssociationLaws (r : ℕ → ℕ) : Type 0 where
  pub message : (meaning : Meaning) (setup : Setup) (old new : Association) (table new_table : Database) (octets : Octets) (m : Message) (e : Effect)
      → TakesMessage meaning setup old table octets m e new new_table → TakesMessage meaning setup (renamed_association r old) (renamed_table r table) octets m e (renamed_association r new) (renamed_table r new_table)
  pub closes : (old new : Association) (table new_table : Database) (moment : ℕ)
      → Closes old table moment new new_table → Closes (renamed_association r old) (renamed_table r table) moment (renamed_association r new) (renamed_table r new_table)
  pub asks : (body_of : Keys → Octets → Octets → Octets → Octets) (setup : Setup) (order : Order) (old new : Association) (octets : Octets)
      → Asks body_of setup order old octets new → Asks body_of setup order (renamed_association r old) octets (renamed_association r new)
  pub further : (body_of : Keys → Octets → Octets → Octets → Octets) (setup : Setup) (local remote : Selector) (old new : Association) (table new_table : Database) (octets : Octets)
      → AsksForFurther body_of setup local remote old table octets new new_table → AsksForFurther body_of setup local remote (renamed_association r old) (renamed_table r table) octets (renamed_association r new) (renamed_table r new_table)

pub record RenamedLaws (r : ℕ → ℕ) : Type 0 where
  pub pairs : PairLaws r
  pub associations : AssociationLaws r
