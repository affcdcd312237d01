-- The error codes of this crate's refusals.
use Rattle.std.specs.Prelude.{ℕ, Bool, true, false}
use Rattle.wire.specs.Fault.{fault_number}
use Rattle.association.specs.Faults.{code_of_message_fault}
use Rattle.children.specs.Faults.{code_of_memory_fault}
use Rattle.children.specs.declared.fault.MemoryFault.TheVariants as child
use Rattle.sadb.specs.declared.fault.TableFault.{TableFault}
use Rattle.sadb.specs.declared.fault.TableFault.TheVariants as table
use Rattle.ike.specs.declared.fault.IkeFault.{IkeFault}
use Rattle.ike.specs.declared.fault.IkeFault.TheVariants as fault

abbrev pub code_of_ike_fault : IkeFault → ℕ
code_of_ike_fault (fault.Unread f) = fault_number f
code_of_ike_fault (fault.Message f) = code_of_message_fault f
code_of_ike_fault fault.Unprotected = 23
code_of_ike_fault fault.Crowded = 25
code_of_ike_fault fault.TableFull = 25
code_of_ike_fault fault.SpisSpent = 26
code_of_ike_fault fault.HalfOpenFull = 34
code_of_ike_fault fault.Busy = 35
code_of_ike_fault fault.NumbersSpent = 36
code_of_ike_fault fault.BadFresh = 37
code_of_ike_fault (fault.Memory f) = code_of_memory_fault f

-- why the table gives no SPI
abbrev pub fault_of_table : TableFault → IkeFault
fault_of_table table.Full = fault.TableFull
fault_of_table table.Spent = fault.SpisSpent
fault_of_table table.Memory = fault.Memory child.Table

-- There was no memory. No contract says when that is so.
abbrev pub is_want_of_memory : IkeFault → Bool
is_want_of_memory (fault.Memory f) = true
is_want_of_memory f = false
