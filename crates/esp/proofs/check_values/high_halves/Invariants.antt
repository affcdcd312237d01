use Rattle.std.proofs.Common.{◌≡◌, length}
use Rattle.esp.specs.Laying.{AreHighHalves}
use Rattle.esp.proofs.check_values.high_halves.Given as goal

abbrev pub invariant-loop-place : goal.invariant-loop-place
invariant-loop-place g l = record {
  long : length l.halves ≡ g.row.N;
  are : AreHighHalves l.last l.place l.halves;
}
