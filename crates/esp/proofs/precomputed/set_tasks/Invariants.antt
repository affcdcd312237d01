use Rattle.std.proofs.Common.{◌≡◌, length, map, take}
use Rattle.lanes.specs.Task.{icv_of}
use Rattle.esp.specs.Precomputed.{value_of_asked}
use Rattle.esp.proofs.precomputed.set_tasks.Given as goal

-- the tasks so far are what is asked
abbrev pub invariant-loop-turn : goal.invariant-loop-turn
invariant-loop-turn l = record {
  asked : map icv_of (take l.turn l.tasks) ≡ map value_of_asked (take l.turn l.asked);
  long : length l.tasks ≡ length l.fn.tasks;
}
