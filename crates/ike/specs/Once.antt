-- That a call does one thing.
use Rattle.std.specs.Prelude.{◌≡◌, false, true, List}
use Rattle.policy.specs.declared.entry.Entry.{Entry}
use Rattle.sadb.specs.Contents.{table_content}
use Rattle.sadb.specs.Database.{Database}
use Rattle.effects.specs.Taking.{Meaning}
use Rattle.ike.specs.Contents.{machine_content}
use Rattle.ike.specs.Faults.{is_want_of_memory}
use Rattle.ike.specs.Machines.{Machine}
use Rattle.ike.specs.Steps.{InputView, Refuses, Steps}
use Rattle.ike.specs.declared.fault.IkeFault.{IkeFault}
use Rattle.ike.specs.declared.output.Stepped.{Stepped}

-- Given once more, or to another machine with a table, of which both hold the same, an input that was taken
-- has the same result and leaves the same, whatever room there is. It is refused for want of memory alone.
pub record IsTakenAlike (meaning : Meaning) (entries : List Entry) (given : InputView) (old : Machine) (table : Database) (stepped : Stepped) (new : Machine) (new_table : Database) : Type 0 where
  pub taken : (other after : Machine) (another after_table : Database) (also : Stepped)
      → machine_content other ≡ machine_content old
      → table_content another ≡ table_content table
      → Steps meaning entries given other another also after after_table
      → (also ≡ stepped) × (machine_content after ≡ machine_content new) × (table_content after_table ≡ table_content new_table)
  pub refused : (other : Machine) (another : Database) (reason : IkeFault)
      → machine_content other ≡ machine_content old
      → table_content another ≡ table_content table
      → Refuses meaning entries given other another reason
      → is_want_of_memory reason ≡ true

-- And one that was refused, for another reason than want of memory, is refused for the same.
pub record IsRefusedAlike (meaning : Meaning) (entries : List Entry) (given : InputView) (old : Machine) (table : Database) (reason : IkeFault) : Type 0 where
  pub refused : (other : Machine) (another : Database) (also : IkeFault)
      → machine_content other ≡ machine_content old
      → table_content another ≡ table_content table
      → is_want_of_memory reason ≡ false
      → is_want_of_memory also ≡ false
      → Refuses meaning entries given other another also
      → also ≡ reason
  pub taken : (other after : Machine) (another after_table : Database) (also : Stepped)
      → machine_content other ≡ machine_content old
      → table_content another ≡ table_content table
      → Steps meaning entries given other another also after after_table
      → is_want_of_memory reason ≡ true
