-- What comes with a tick, at all IKE SAs (RFC 7296 sections 2.1 and 2.4): requests are retransmitted, IKE SAs
-- whose peer is gone are closed, and those that are over are held no longer.
use Rattle.std.specs.Prelude.{◌≡◌, ◌++◌, ◌∷◌, ◌<◌, ℕ, Bool, true, false, Some, List, [], slice_get}
use Rattle.sadb.specs.Database.{Database}
use Rattle.association.specs.Closing.{Closes, HoldsReserved, HoldsSpi}
use Rattle.association.specs.declared.phase.Association.{Association}
use Rattle.moments.specs.Due.{due_of, has_failed, is_over, SendsAgain}
use Rattle.moments.specs.declared.resent.Resent.{Resent}
use Rattle.moments.specs.declared.ticking.Ticked.{Ticked}

-- it is held no longer, or it is closed and sends nothing, or it sends what is due
abbrev pub PassesBy : Bool → Bool → ℕ → Association → Database → List Resent → List ℕ → List Association → Database → Type 0
PassesBy true failed now old table sent closed held new_table = (sent ≡ []) × (closed ≡ []) × (held ≡ []) × (new_table ≡ table)
PassesBy false true now old table sent closed held new_table =
    (new : Association) × (Closes old table now new new_table) × (sent ≡ []) × (closed ≡ old.serial ∷ []) × (held ≡ new ∷ [])
PassesBy false false now old table sent closed held new_table =
    (new : Association) × (SendsAgain now old new) × (sent ≡ due_of now old) × (closed ≡ []) × (held ≡ new ∷ []) × (new_table ≡ table)

-- of one IKE SA: what is sent again, the serial that is closed, and the IKE SA as it is held then, if it is
pub record Passes (now : ℕ) (old : Association) (table : Database) (sent : List Resent) (closed : List ℕ) (held : List Association) (new_table : Database) : Type 0 where
  pub done : PassesBy (is_over now old.phase) (has_failed now old) now old table sent closed held new_table

-- what becomes of several IKE SAs: what is sent again, the serials that are closed, those that are held then,
-- and the table
abbrev pub Passing : Type 1
Passing = Database → List Resent → List ℕ → List Association → Database → Type 0

-- first one of them, and then the others
pub record PassesThen (now : ℕ) (first : Association) (PassOthers : Passing) (table : Database) (sent : List Resent) (closed : List ℕ) (held : List Association) (new_table : Database) : Type 0 where
  pub sent_first : List Resent
  pub sent_rest : List Resent
  pub closed_first : List ℕ
  pub closed_rest : List ℕ
  pub held_first : List Association
  pub held_rest : List Association
  pub between : Database
  pub passes : Passes now first table sent_first closed_first held_first between
  pub others : PassOthers between sent_rest closed_rest held_rest new_table
  pub sent_all : sent ≡ sent_first ++ sent_rest
  pub closed_all : closed ≡ closed_first ++ closed_rest
  pub held_all : held ≡ held_first ++ held_rest

-- one after the other, in their order
abbrev pub PassAll : ℕ → List Association → Database → List Resent → List ℕ → List Association → Database → Type 0
PassAll now [] table sent closed held new_table = (sent ≡ []) × (closed ≡ []) × (held ≡ []) × (new_table ≡ table)
PassAll now (a ∷ rest) table sent closed held new_table = PassesThen now a (λ before s c h after. PassAll now rest before s c h after) table sent closed held new_table

-- The SPIs that the IKE SAs hold are reserved in the table, each for one of them alone.
pub record HoldTheirSpis (associations : List Association) (table : Database) : Type 0 where
  pub reserved : (place : ℕ) (a : Association) → slice_get associations place ≡ Some a → HoldsReserved a table
  pub apart : (place later : ℕ) (a other : Association) (spi : ℕ) → place < later → slice_get associations place ≡ Some a → slice_get associations later ≡ Some other → HoldsSpi a spi → ¬ HoldsSpi other spi

abbrev pub Ticks : ℕ → List Association → Database → Ticked → List Association → Database → Type 0
Ticks now old table ticked new new_table = PassAll now old table ticked.requests ticked.closed new new_table
