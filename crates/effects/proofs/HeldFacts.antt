-- The SPIs that an IKE SA holds for Child SAs, as the crate below tells of them.
use Rattle.std.proofs.Common.{◌≡◌, inl, inr, ℕ, None, Some}
use Rattle.requests.specs.Outgoing.{CountsAnswer, HasSameOwnRequests, IssuesRequest, OwnRequests, ReplacesRequest}
use Rattle.sadb.specs.Database.{Database, IsReserved}
use Rattle.association.specs.Closing.{Closes, HoldsReserved, HoldsSpi}
use Rattle.association.specs.Phases.{spi_in}
use Rattle.association.specs.Purposes.{spi_asked, AwaitsChild}
use Rattle.association.specs.declared.phase.Association.{Association}
use Rattle.association.specs.declared.phase.Request.{Request}

-- what the crate below says of the SPIs that an IKE SA holds
pub record HeldFacts : Type 0 where
  pub closed : (old : Association) (table : Database) (moment : ℕ) (new : Association) (new_table : Database) (spi : ℕ) → Closes old table moment new new_table → HoldsSpi new spi → ⊥
  pub preparing : (old new : OwnRequests Request) (number spi : ℕ) → HasSameOwnRequests old new → AwaitsChild new number spi → AwaitsChild old number spi
  pub issuing : (old new : OwnRequests Request) (request : Request) (issued number spi : ℕ) → spi_asked request.purpose ≡ None → IssuesRequest old request issued new → AwaitsChild new number spi → AwaitsChild old number spi
  pub counting : (old new : OwnRequests Request) (request : Request) (counted number spi : ℕ) → CountsAnswer old counted request new → AwaitsChild new number spi → AwaitsChild old number spi
  pub replacing : (old new : OwnRequests Request) (was is : Request) (replaced number spi : ℕ) → spi_asked is.purpose ≡ None → ReplacesRequest old replaced was is new → AwaitsChild new number spi → AwaitsChild old number spi
  pub fewer : (a b : Association) (table new : Database) → ((spi : ℕ) → spi_in b.phase ≡ Some spi → spi_in a.phase ≡ Some spi) → ((number spi : ℕ) → AwaitsChild b.outgoing number spi → AwaitsChild a.outgoing number spi)
      → ((spi : ℕ) → HoldsSpi b spi → IsReserved table spi → IsReserved new spi) → HoldsReserved a table → HoldsReserved b new

-- an SPI is held no more as the answer is matched that it was held for
abbrev pub GivenBack : Type 0
GivenBack = (a : Association) (table : Database) (number : ℕ) (request : Request) (outgoing : OwnRequests Request) (spi : ℕ)
    → HoldsReserved a table → CountsAnswer a.outgoing number request outgoing → spi_asked request.purpose ≡ Some spi → HoldsSpi (record a { outgoing = outgoing }) spi → ⊥

-- what is held after an answer was matched was held before
pub counted_before : HeldFacts → (old : Association) (outgoing : OwnRequests Request) (request : Request) (number spi : ℕ) → CountsAnswer old.outgoing number request outgoing
    → HoldsSpi (record old { outgoing = outgoing }) spi → HoldsSpi old spi
counted_before facts old outgoing request number spi is (inl its) = inl its
counted_before facts old outgoing request number spi is (inr awaits) =
    inr (record { number = awaits.number; awaits = facts.counting old.outgoing outgoing request number awaits.number spi is awaits.awaits })
