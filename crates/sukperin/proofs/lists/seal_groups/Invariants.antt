use Rattle.std.proofs.Common.{◌≡◌, ◌*◌, ◌≤◌, [], length, min, take, drop}
use Rattle.sukperin.specs.Lists.{RunsOver, TakesOutAt}
use Rattle.sukperin.proofs.lists.seal_groups.Given as goal

-- the groups so far were taken
abbrev pub invariant-loop-group : goal.invariant-loop-group
invariant-loop-group l = record {
  runs : RunsOver (TakesOutAt l.octets (length l.fn.room)) (take (min (64 * l.group) (length l.places)) l.places) (record { gateway = l.fn.gateway; octets = [] }) l.fn.outs (record { gateway = l.gateway; octets = take l.used l.room }) l.outs;
  fits : l.used ≤ length l.room;
  behind : drop l.used l.room ≡ drop l.used l.fn.room;
}
