-- The numbers of this crate's refusals, and when a first SPI is refused.
use Rattle.std.specs.Prelude.{◌+◌, ◌<◌, ◌^◌, ℕ}
use Rattle.sadb.specs.declared.fault.SpiFault.{SpiFault}
use Rattle.sadb.specs.declared.fault.SpiFault.TheVariants.{Reserved, TooHigh}
use Rattle.sadb.specs.declared.fault.TableFault.{TableFault}
use Rattle.sadb.specs.declared.fault.TableFault.TheVariants.{Full, Spent, Memory}

abbrev pub code_of_table_fault : TableFault → ℕ
code_of_table_fault Full = 25
code_of_table_fault Spent = 26
code_of_table_fault Memory = 27

-- 0 to 255 are reserved (RFC 4303 section 2.1), and 65,536 SPIs from the first on have to fit 32 bits
abbrev pub IsSpiFault : ℕ → SpiFault → Type 0
IsSpiFault start Reserved = start < 256
IsSpiFault start TooHigh = 2 ^ 32 < start + 65536
