-- The codes that tell refusals to C.
use Rattle.std.specs.Prelude.{ℕ, Result, Ok, Err}
use Rattle.esp.specs.Faults.{code_of_esp_fault}
use Rattle.sukperin.specs.declared.refusal.Refusal.{Refusal}
use Rattle.sukperin.specs.declared.refusal.Refusal.TheVariants.{Esp, Memory, OtherSpi, NoEnd, InUse, ShortRoom, Configuration, Policy, Spi, Nothing, Place}

abbrev pub code_of_refusal : Refusal → ℕ
code_of_refusal (Esp fault) = code_of_esp_fault fault
code_of_refusal Memory = 20
code_of_refusal OtherSpi = 28
code_of_refusal NoEnd = 101
code_of_refusal InUse = 102
code_of_refusal ShortRoom = 103
code_of_refusal Configuration = 104
code_of_refusal Policy = 106
code_of_refusal Spi = 107
code_of_refusal Nothing = 108
code_of_refusal Place = 109

-- 0 tells that the call did what it is for
abbrev pub code_of_answer : Result (Unit {0}) Refusal → ℕ
code_of_answer (Ok _) = 0
code_of_answer (Err refusal) = code_of_refusal refusal
