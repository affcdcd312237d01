-- The numbers of this crate's refusals.
use Rattle.std.specs.Prelude.{ℕ}
use Rattle.requests.specs.declared.fault.RequestFault.{RequestFault}
use Rattle.requests.specs.declared.fault.RequestFault.TheVariants.{Memory, Busy, NumbersSpent}

abbrev pub code_of : RequestFault → ℕ
code_of Memory = 10
code_of Busy = 35
code_of NumbersSpent = 36
