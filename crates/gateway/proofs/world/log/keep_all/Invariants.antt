use Rattle.std.proofs.Common.{◌≡◌, ◌+◌, ◌++◌, All, drop, map, vec_len}
use Rattle.std.specs.Vec.{vec_capacity}
use Rattle.gateway.specs.Storing.{IsSpareMessage}
use Rattle.gateway.specs.Worlds.{again_as}
use Rattle.gateway.proofs.world.log.keep_all.Given as goal

-- what was kept so far and what is still to come, with memory for it
abbrev pub invariant-loop-request : goal.invariant-loop-request
invariant-loop-request g l = record {
  items : l.log.items ++ map (again_as l.end l.gateway.machine) (drop l.request-index l.requests) ≡ l.fn.log.items ++ map (again_as l.end l.gateway.machine) l.requests;
  length_now : vec_len l.log ≡ vec_len l.fn.log + l.request-index;
  room : vec_capacity l.log ≡ vec_capacity l.fn.log;
  left : vec_len l.again + l.request-index ≡ vec_len l.fn.again;
  each : All IsSpareMessage l.again.items;
}
