-- Why the table gives no SPI.
use Rattle.sadb.specs.Database.{Database, IsTableRefusal}
use Rattle.sadb.specs.declared.fault.TableFault.{TableFault}
use Rattle.sadb.specs.declared.fault.TableFault.TheVariants as table
use Rattle.association.specs.Faults.{fault_of_table}
use Rattle.create_child.specs.Readying.{GivesNoSpi}

pub withheld : (d : Database) (f : TableFault) → IsTableRefusal d f → GivesNoSpi d (fault_of_table f)
withheld d table.Full is = is
withheld d table.Spent is = is
withheld d table.Memory is = is
