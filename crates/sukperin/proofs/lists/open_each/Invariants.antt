use Rattle.std.proofs.Common.{take}
use Rattle.gateway.specs.Runs.{Runs}
use Rattle.sukperin.specs.Lists.{TakesEspAt}
use Rattle.sukperin.proofs.lists.open_each.Given as goal

-- the packets so far were taken
abbrev pub invariant-loop-turn : goal.invariant-loop-turn
invariant-loop-turn l = Runs (TakesEspAt l.octets) (take l.turn l.places) (take l.turn l.outs) l.fn.gateway l.gateway
