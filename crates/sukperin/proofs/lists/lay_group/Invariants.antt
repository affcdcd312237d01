use Rattle.std.proofs.Common.{◌≡◌, ◌-◌, ◌≤◌, ◌++◌, length, take, drop}
use Rattle.gateway.specs.Rows.{finished_row, octets_of}
use Rattle.gateway.specs.Runs.{Runs}
use Rattle.sukperin.specs.Lists.{TakesOutAt, laid_behind}
use Rattle.sukperin.proofs.lists.lay_group.Given as goal

-- the packets so far were taken, and theirs are the ESP packets behind what was used of the room
abbrev pub invariant-loop-turn : goal.invariant-loop-turn
invariant-loop-turn l = record {
  runs : Runs (TakesOutAt l.octets (length l.fn.room)) (take l.turn l.places) (take l.turn l.outs) (record { gateway = l.fn.gateway; octets = take l.used l.fn.room }) (record { gateway = l.gateway; octets = take l.used l.room ++ finished_row l.gateway.table.pairs (take l.turn l.spans) (laid_behind l.used l.end l.room) });
  begins : l.used ≤ l.end;
  whole : octets_of (take l.turn l.spans) ≡ l.end - l.used;
  fits : l.end ≤ length l.fn.room;
  behind : drop l.end l.room ≡ drop l.end l.fn.room;
}
