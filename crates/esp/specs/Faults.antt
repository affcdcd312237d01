-- The numbers of this crate's refusals.
use Rattle.std.specs.Prelude.{ℕ}
use Rattle.esp.specs.declared.fault.EspFault.{EspFault}
use Rattle.esp.specs.declared.fault.EspFault.TheVariants.{Exhausted, PayloadSize, BadLength, Old, Replayed, BadNumber, BadIcv, BadPadding, Memory}

abbrev pub code_of_esp_fault : EspFault → ℕ
code_of_esp_fault Exhausted = 12
code_of_esp_fault PayloadSize = 13
code_of_esp_fault BadLength = 14
code_of_esp_fault Old = 15
code_of_esp_fault Replayed = 16
code_of_esp_fault BadNumber = 17
code_of_esp_fault BadIcv = 18
code_of_esp_fault BadPadding = 19
code_of_esp_fault Memory = 20
