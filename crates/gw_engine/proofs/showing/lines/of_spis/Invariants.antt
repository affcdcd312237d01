use Rattle.std.proofs.Common.{◌≡◌, ◌++◌, codes, string_bytes, take, flat_map}
use Rattle.gw_console.specs.Digits.{hexadecimal}
use Rattle.gw_engine.proofs.showing.lines.of_spis.Given as goal

abbrev pub invariant-loop-spi : goal.invariant-loop-spi
invariant-loop-spi l = string_bytes l.text ≡ flat_map (λ one. codes " " ++ hexadecimal 8 one) (take l.spi-index l.spis)
