-- The invariant of a machine and its table.
use Rattle.std.specs.Prelude.{ℕ}
use Rattle.sadb.specs.Database.{Database, IsReserved, IsSoundTable}
use Rattle.setup.specs.declared.config.Config.{Config}
use Rattle.ike.specs.LawCases.{EachStep, IsStep}
use Rattle.ike.specs.Lengths.{HoldWholeKeys}
use Rattle.ike.specs.Machines.{new_machine, Held, Machine}
use Rattle.ike.specs.Soundness.{AreReservationsHeld, IsSoundMachine}

-- ---- soundness_stays
abbrev pub SoundnessStays : Type 0
SoundnessStays = EachStep (λ it.
    IsSoundTable it.table
    → IsSoundMachine it.old it.table
    → IsStep it
    → IsSoundMachine it.new it.new_table)

-- ---- no_spi_is_lost
abbrev pub NewMachinesLoseNoSpi : Type 0
NewMachinesLoseNoSpi = (config : Config) (table : Database)
    → ((spi : ℕ) → ¬ IsReserved table spi)
    → AreReservationsHeld (new_machine config).held table

abbrev pub NoSpiIsLost : Type 0
NoSpiIsLost = EachStep (λ it.
    IsSoundMachine it.old it.table
    → IsStep it
    → AreReservationsHeld it.old.held it.table
    → AreReservationsHeld it.new.held it.new_table)

abbrev pub WhatReservesNoneLosesNone : Type 0
WhatReservesNoneLosesNone = (held : Held) (table new_table : Database)
    → ((spi : ℕ) → IsReserved new_table spi → IsReserved table spi)
    → AreReservationsHeld held table
    → AreReservationsHeld held new_table

-- ---- soundness_asks_for_reservations
abbrev pub SoundnessAsksForReservations : Type 0
SoundnessAsksForReservations = (machine : Machine) (table : Database) (other : Database)
    → ((spi : ℕ) → IsReserved table spi → IsReserved other spi)
    → IsSoundMachine machine table
    → IsSoundMachine machine other

-- ---- keys_stay_whole
abbrev pub SoundMachinesHoldWholeKeys : Type 0
SoundMachinesHoldWholeKeys = (machine : Machine) (table : Database)
    → IsSoundMachine machine table
    → HoldWholeKeys machine.held

abbrev pub NewMachinesHoldWholeKeys : Type 0
NewMachinesHoldWholeKeys = (config : Config) → HoldWholeKeys (new_machine config).held

abbrev pub KeysStayWhole : Type 0
KeysStayWhole = EachStep (λ it.
    HoldWholeKeys it.old.held
    → IsStep it
    → HoldWholeKeys it.new.held)
