-- When an initiator's IKE SA can be brought to an outcome.
use Rattle.std.proofs.Common.{◌≡◌, ℕ, Option, Some, None, ap, subst, sym, inl}
use Rattle.sadb.specs.Database.{Database, IsReserved}
use Rattle.sadb.specs.declared.pair.Pair.{Pair}
use Rattle.association.specs.Closing.{HoldsReserved}
use Rattle.association.specs.Phases.{established_spi, spi_in}
use Rattle.association.specs.declared.phase.Association.{Association}
use Rattle.association.specs.declared.phase.AuthSent.{AuthSent}
use Rattle.association.specs.declared.phase.Phase.{Phase}
use Rattle.association.specs.declared.phase.Phase.TheVariants as phase
use Rattle.initial.specs.Concluding.{CanAdd, CanConclude}
use Rattle.initial.specs.Ending.{FitsVerdict, HasItsSpi}
use Rattle.initial.specs.declared.concluding.Outcome.{Outcome}
use Rattle.initial.specs.declared.concluding.Outcome.TheVariants as outcome

can_add : (table : Database) (spi : ℕ) (pair : Option Pair) → IsReserved table spi → HasItsSpi spi pair → CanAdd table (Some spi) pair
can_add table spi None there its = there
can_add table spi (Some pair) there its = (there, its)

pub can_end : (a : Association) (table : Database) (sent : AuthSent) (o : Outcome) → a.phase ≡ phase.AuthSent sent → HoldsReserved a table → FitsVerdict sent o → CanConclude a table o
can_end a table sent outcome.Closes was holds fits = holds
can_end a table sent (outcome.Establishes pair window) was holds fits = (
  fits.0,
  subst (λ (p : Phase). CanAdd table (established_spi p) pair) (sym was) (can_add table sent.child.spi pair (holds.reserved sent.child.spi (inl (ap spi_in was))) fits.1),
)
