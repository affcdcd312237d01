-- The error codes of this crate.
use Rattle.std.specs.Prelude.{ℕ}
use Rattle.sadb.specs.declared.fault.TableFault.{TableFault}
use Rattle.sadb.specs.declared.fault.TableFault.TheVariants as table
use Rattle.association.specs.declared.fault.MessageFault.{MessageFault}
use Rattle.association.specs.declared.fault.MessageFault.TheVariants.{UnknownAssociation, NotOpened, Forgotten, OutsideWindow, WrongPhase, WrongRole}
use Rattle.association.specs.declared.fault.OrderFault.{OrderFault}
use Rattle.association.specs.declared.fault.OrderFault.TheVariants as order

abbrev pub code_of_message_fault : MessageFault → ℕ
code_of_message_fault UnknownAssociation = 28
code_of_message_fault NotOpened = 29
code_of_message_fault Forgotten = 30
code_of_message_fault OutsideWindow = 31
code_of_message_fault WrongPhase = 32
code_of_message_fault WrongRole = 33

abbrev pub code_of_order_fault : OrderFault → ℕ
code_of_order_fault order.WrongPhase = 32
code_of_order_fault order.Busy = 35
code_of_order_fault order.NumbersSpent = 36
code_of_order_fault order.TableFull = 25
code_of_order_fault order.SpisSpent = 26
code_of_order_fault order.TableMemory = 27
code_of_order_fault order.Memory = 10

-- why the table gives no SPI
abbrev pub fault_of_table : TableFault → OrderFault
fault_of_table table.Full = order.TableFull
fault_of_table table.Spent = order.SpisSpent
fault_of_table table.Memory = order.TableMemory
