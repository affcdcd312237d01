use Rattle.std.proofs.Common.{◌*◌, length, min, take}
use Rattle.sukperin.specs.Lists.{RunsOver, TakesEspAt}
use Rattle.sukperin.proofs.lists.open_groups.Given as goal

-- the groups so far were taken
abbrev pub invariant-loop-group : goal.invariant-loop-group
invariant-loop-group l = RunsOver (TakesEspAt l.octets) (take (min (64 * l.group) (length l.places)) l.places) l.fn.gateway l.fn.outs l.gateway l.outs
