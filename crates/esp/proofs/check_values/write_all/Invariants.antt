use Rattle.std.proofs.Common.{◌≡◌, ◌+◌, ◌≤◌, ◌++◌, take, drop, length}
use Rattle.esp.specs.Laying.{covered_sizes, packets_size, with_values}
use Rattle.esp.proofs.check_values.write_all.Given as goal

-- the packets so far have their ICVs, and the others stand behind them
abbrev pub invariant-loop-place : goal.invariant-loop-place
invariant-loop-place l = record {
  written : take l.start l.packets ++ with_values (drop l.place (covered_sizes l.payloads)) (drop l.place l.values) (drop l.start l.packets)
      ≡ with_values (covered_sizes l.payloads) l.values l.fn.packets;
  room : l.start + packets_size (drop l.place (covered_sizes l.payloads)) ≤ length l.packets;
}
