use Rattle.std.proofs.Common.{◌≡◌, drop, length, take}
use Rattle.gateway.specs.Laying.{finished_outputs}
use Rattle.gateway.proofs.laying.finish_with.Given as goal

-- the outputs so far are finished, and the others as they were
abbrev pub invariant-loop-place : goal.invariant-loop-place
invariant-loop-place l = record {
  done : take l.place l.laid ≡ finished_outputs l.table.pairs (take l.place l.fn.laid);
  rest : drop l.place l.laid ≡ drop l.place l.fn.laid;
  long : length l.laid ≡ length l.fn.laid;
}
