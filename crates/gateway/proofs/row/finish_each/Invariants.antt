use Rattle.std.proofs.Common.{◌≡◌, ◌++◌, take, drop}
use Rattle.gateway.specs.Rows.{finished_row, octets_of}
use Rattle.gateway.proofs.row.finish_each.Given as goal

-- the packets so far have their ICVs, and what stands behind them is as it was
abbrev pub invariant-loop-place : goal.invariant-loop-place
invariant-loop-place l = record {
  done : l.packets ≡ finished_row l.table.pairs (take l.place l.spans) (take l.at l.fn.packets) ++ drop l.at l.fn.packets;
  at_is : l.at ≡ octets_of (take l.place l.spans);
}
