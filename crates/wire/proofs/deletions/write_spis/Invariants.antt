use Rattle.std.proofs.Common.{◌≡◌, drop}
use Rattle.wire.specs.Writing.{each_onto, number_onto}
use Rattle.wire.proofs.deletions.write_spis.Given as goal

abbrev pub invariant-loop-spi : goal.invariant-loop-spi
invariant-loop-spi l = each_onto (number_onto 4) (drop l.spi-index l.spis) l.out.items ≡ each_onto (number_onto 4) l.spis l.initial.out.items
