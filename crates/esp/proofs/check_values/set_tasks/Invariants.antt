use Rattle.std.proofs.Common.{◌≡◌, ℕ, ◌+◌, ◌≤◌, ◌++◌, map, take, drop, length}
use Rattle.lanes.specs.Task.{icv_of}
use Rattle.esp.specs.Laying.{AreHighHalves, covered_sizes, packets_size, values_in}
use Rattle.esp.proofs.check_values.set_tasks.Given as goal

-- the tasks so far ask for the first ICVs, and the others are those of the packets that are left
abbrev pub invariant-loop-place : goal.invariant-loop-place
invariant-loop-place l = record {
  asked : (last : ℕ) → AreHighHalves last (length l.payloads) l.halves
      → map icv_of (take l.place l.tasks) ++ values_in l.association (last + l.place) (drop l.place (covered_sizes l.payloads)) (drop l.start l.packets)
      ≡ values_in l.association last (covered_sizes l.payloads) l.packets;
  long : length l.tasks ≡ length l.fn.tasks;
  room : l.start + packets_size (drop l.place (covered_sizes l.payloads)) ≤ length l.packets;
}
