use Rattle.std.proofs.Common.{◌≡◌, length, map, take}
use Rattle.lanes.specs.Task.{icv_of}
use Rattle.esp.specs.Ahead.{value_asked}
use Rattle.esp.specs.Delivery.{octets_of}
use Rattle.esp.proofs.ahead.set_tasks.Given as goal

-- the tasks so far are what is asked of the first packets
abbrev pub invariant-loop-turn : goal.invariant-loop-turn
invariant-loop-turn l = record {
  asked : map icv_of (take l.turn l.tasks) ≡ map (value_asked l.association (octets_of l.packets)) (take l.turn l.asked);
  long : length l.tasks ≡ length l.fn.tasks;
}
