-- What a tick makes of each IKE SA where it stands, before those that are over are taken out. Private
-- contracts alone cite this.
use Rattle.std.specs.Prelude.{◌≡◌, ℕ, Bool, true, false, List, [], ◌∷◌, if◌then◌else◌}
use Rattle.requests.specs.Outgoing.{OwnRequests, ReplacesRequest}
use Rattle.sadb.specs.Database.{Database}
use Rattle.association.specs.Closing.{Closes}
use Rattle.association.specs.declared.phase.Association.{Association}
use Rattle.association.specs.declared.phase.Request.{Request}
use Rattle.moments.specs.Due.{after_sending, has_failed, is_due, is_over, resent, SendsAgain}
use Rattle.moments.specs.declared.resent.Resent.{Resent}

-- what an outstanding request adds to those that go out again
abbrev pub one_due : ℕ → Association → ℕ → Request → List Resent
one_due now a number r = if is_due now r then resent a (number, r) ∷ [] else []

-- an outstanding request stands as it is after the tick
pub record RestartsAt (now : ℕ) (old : OwnRequests Request) (number : ℕ) (new : OwnRequests Request) : Type 0 where
  pub request : Request
  pub replaced : ReplacesRequest old number request (after_sending now request) new

-- one that is over stays as it is, one that has failed is closed, and each other one sends what is due
abbrev pub BecomesBy : Bool → Bool → ℕ → Association → Database → Association → Database → Type 0
BecomesBy true failed now old table new new_table = (new ≡ old) × (new_table ≡ table)
BecomesBy false true now old table new new_table = Closes old table now new new_table
BecomesBy false false now old table new new_table = (SendsAgain now old new) × (new_table ≡ table)

pub record Becomes (now : ℕ) (old : Association) (table : Database) (new : Association) (new_table : Database) : Type 0 where
  pub done : BecomesBy (is_over now old.phase) (has_failed now old) now old table new new_table

pub record BecomesThen (now : ℕ) (old new : Association) (Others : Database → Database → Type 0) (table new_table : Database) : Type 0 where
  pub between : Database
  pub first : Becomes now old table new between
  pub others : Others between new_table

-- each of them in its place, one after the other
abbrev pub BecomeAll : ℕ → List Association → Database → List Association → Database → Type 0
BecomeAll now [] table [] new_table = new_table ≡ table
BecomeAll now [] table (b ∷ later) new_table = ⊥
BecomeAll now (a ∷ rest) table [] new_table = ⊥
BecomeAll now (a ∷ rest) table (b ∷ later) new_table = BecomesThen now a b (λ before after. BecomeAll now rest before later after) table new_table
