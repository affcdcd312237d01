use Rattle.std.proofs.Common.{◌≡◌, ◌≤◌, All, vec_len}
use Rattle.std.specs.Vec.{vec_capacity}
use Rattle.gateway.specs.Storing.{IsSpareMessage}
use Rattle.gateway.proofs.world.log.spare_messages.Given as goal

-- so much memory as was made, and room for the rest
abbrev pub invariant-loop-made : goal.invariant-loop-made
invariant-loop-made l = record {
  length_now : vec_len l.spare ≡ l._made;
  room : l.count ≤ vec_capacity l.spare;
  each : All IsSpareMessage l.spare.items;
}
