-- The SPIs that an IKE SA holds for its Child SAs.
use Rattle.std.specs.Prelude.{◌+◌, ◌<◌, ◌≡◌, ◌⊎◌, true, ℕ}
use Rattle.base.specs.Octets.{Octets}
use Rattle.suite.specs.declared.key_record.KeyRecord.{KeyRecord}
use Rattle.sadb.specs.Database.{Database, IsAsBefore, IsReserved, IsSoundTable, Reserves}
use Rattle.association.specs.Closing.{HoldsReserved, HoldsSpi}
use Rattle.association.specs.declared.phase.Association.{Association}
use Rattle.association.specs.Admitting.{half_open}
use Rattle.moments.specs.Due.{is_over}
use Rattle.effects.specs.LawCases.{begun_by, EachBeginning, EachMessage, EachOrder, EachRequest, IsBegun, IsOrdered, IsSent, IsTaken}
use Rattle.effects.specs.Requests.{IsSoundlyHeld}

-- ---- spis_stay_reserved
abbrev pub SpisStayReserved : Type 0
SpisStayReserved = EachMessage (λ it.
    IsSoundTable it.table
    → HoldsReserved it.old it.table
    → IsTaken it
    → HoldsReserved it.new it.new_table)

-- ---- what_is_given_up_is_released
abbrev pub WhatStaysReservedStaysHeld : Type 0
WhatStaysReservedStaysHeld = EachMessage (λ it. (spi : ℕ)
    → IsSoundlyHeld it.old
    → IsTaken it
    → IsReserved it.new_table spi
    → IsReserved it.table spi × (HoldsSpi it.old spi → HoldsSpi it.new spi))

abbrev pub RequestsLeaveSpisHeld : Type 0
RequestsLeaveSpisHeld = EachRequest (λ it. (spi : ℕ)
    → IsSoundlyHeld it.old
    → IsSent it
    → HoldsSpi it.old spi
    → HoldsSpi it.new spi)

abbrev pub OnlyTheNextSpiIsReserved : Type 0
OnlyTheNextSpiIsReserved = (table between new_table : Database) (next spi : ℕ)
    → IsAsBefore table between
    → Reserves between next new_table
    → IsReserved new_table spi
    → IsReserved table spi ⊎ (spi ≡ next)

abbrev pub WhoIsOverHoldsNoSpi : Type 0
WhoIsOverHoldsNoSpi = (now : ℕ) (a : Association) (spi : ℕ)
    → IsSoundlyHeld a
    → is_over now a.phase ≡ true
    → ¬ HoldsSpi a spi

-- ---- no_spi_comes
abbrev pub NoSpiComes : Type 0
NoSpiComes = EachMessage (λ it. (spi : ℕ)
    → HoldsSpi it.new spi
    → IsTaken it
    → HoldsSpi it.old spi)

-- ---- spis_come_by_orders
abbrev pub WhoBeginsHoldsOneSpi : Type 0
WhoBeginsHoldsOneSpi = EachBeginning (λ it. (spi : ℕ)
    → IsBegun it
    → HoldsSpi (begun_by it) spi
    → spi ≡ it.child.spi)

abbrev pub WhoBeginsHoldsWhatIsReserved : Type 0
WhoBeginsHoldsWhatIsReserved = EachBeginning (λ it. (table : Database)
    → IsBegun it
    → IsReserved table it.child.spi
    → HoldsReserved (begun_by it) table)

abbrev pub WhoIsAdmittedHoldsNoSpi : Type 0
WhoIsAdmittedHoldsNoSpi = (serial spi_i spi_r : ℕ) (keys : KeyRecord) (request reply : Octets)
    (moment spi : ℕ)
    → ¬ HoldsSpi (half_open serial spi_i spi_r keys request reply moment) spi

abbrev pub OtherOrdersBringNoSpi : Type 0
OtherOrdersBringNoSpi = EachOrder (λ it. (spi : ℕ)
    → IsOrdered it
    → HoldsSpi it.new spi
    → HoldsSpi it.old spi)

abbrev pub OrdersLeaveSpisReserved : Type 0
OrdersLeaveSpisReserved = EachOrder (λ it. (table : Database)
    → IsOrdered it
    → HoldsReserved it.old table
    → HoldsReserved it.new table)

-- ---- what_others_hold_stays
abbrev pub WhatOthersHoldStays : Type 0
WhatOthersHoldStays = EachMessage (λ it. (spi : ℕ)
    → ¬ HoldsSpi it.old spi
    → IsReserved it.table spi
    → spi < it.table.start + it.table.given
    → IsTaken it
    → IsReserved it.new_table spi)
