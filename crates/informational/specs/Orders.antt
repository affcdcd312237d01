-- What is asked of an IKE SA before a request of INFORMATIONAL goes out under its keys, and after one was
-- answered (RFC 7296 sections 1.4, 2.2 and 2.3).
use Rattle.std.specs.Prelude.{◌≡◌, ◌⊎◌, ℕ, Bool, true, false, List, All}
use Rattle.requests.specs.Outgoing.{AreNumbersSpent, IsBusy, MayIssue}
use Rattle.suite.specs.declared.key_record.KeyRecord.{KeyRecord}
use Rattle.sadb.specs.Database.{BelongsTo, Database}
use Rattle.association.specs.Closing.{Closes}
use Rattle.association.specs.Purposes.{AwaitsDeletion}
use Rattle.association.specs.declared.phase.Association.{Association}
use Rattle.association.specs.declared.phase.Phase.{Phase}
use Rattle.association.specs.declared.phase.Phase.TheVariants as phase
use Rattle.deletions.specs.Removing.{RemovesNamed}
use Rattle.association.specs.declared.fault.OrderFault.{OrderFault}
use Rattle.association.specs.declared.fault.OrderFault.TheVariants.{WrongPhase, Busy, NumbersSpent, Memory}

-- the SA pairs with these serials go, which are this IKE SA's
pub record RemovesOwn (ike : ℕ) (serials : List ℕ) (old new : Database) : Type 0 where
  pub its_own : All (BelongsTo old.pairs ike) serials
  pub removed : RemovesNamed old serials new

-- the IKE SA is closed at this time, with all its SA pairs; or it stays as it is, and of its pairs those with
-- these serials go
abbrev pub ClosesIf : Bool → List ℕ → Association → Database → ℕ → Association → Database → Type 0
ClosesIf true serials old table moment new new_table = Closes old table moment new new_table
ClosesIf false serials old table moment new new_table = (new ≡ old) × RemovesOwn old.serial serials table new_table
