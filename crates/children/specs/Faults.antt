-- The numbers of this crate's refusals, and for what memory can be wanted.
use Rattle.std.specs.Prelude.{ℕ}
use Rattle.sadb.specs.Database.{Database, IsTableRefusal}
use Rattle.sadb.specs.declared.fault.TableFault.TheVariants as table
use Rattle.children.specs.declared.fault.MemoryFault.{MemoryFault}
use Rattle.children.specs.declared.fault.MemoryFault.TheVariants.{Message, Window, Narrowing, Table}

abbrev pub code_of_memory_fault : MemoryFault → ℕ
code_of_memory_fault Message = 10
code_of_memory_fault Window = 20
code_of_memory_fault Narrowing = 24
code_of_memory_fault Table = 27

-- for what an SA pair holds: its replay window, or its selectors
abbrev pub IsWantOfPair : MemoryFault → Type 0
IsWantOfPair Message = ⊥
IsWantOfPair Window = Unit {0}
IsWantOfPair Narrowing = Unit {0}
IsWantOfPair Table = ⊥

-- at the end that answers: for the SA pair's place in the table only where that takes more pairs and has no
-- room
abbrev pub CanBeWanted : Database → MemoryFault → Type 0
CanBeWanted d Message = Unit {0}
CanBeWanted d Window = Unit {0}
CanBeWanted d Narrowing = Unit {0}
CanBeWanted d Table = IsTableRefusal d table.Memory
