use Rattle.std.proofs.Common.{◌≡◌, ◌++◌, drop}
use Rattle.exchange.specs.Deletions.{esp_spis}
use Rattle.exchange.proofs.deletions.esp_spis.Given as goal

abbrev pub invariant-loop-payload : goal.invariant-loop-payload
invariant-loop-payload l = l.spis.items ++ esp_spis (drop l.payload-index l.payloads) ≡ esp_spis l.payloads
