use Rattle.std.proofs.Common.{◌≡◌, ◌+◌, ◌≤◌, ◌++◌, length, vec_len, drop}
use Rattle.std.specs.Vec.{vec_capacity}
use Rattle.esp.specs.Packet.{joined_parts}
use Rattle.esp.proofs.outbound.append.Given as goal

-- the parts so far were appended, and there is room for the others
abbrev pub invariant-loop-part : goal.invariant-loop-part
invariant-loop-part l = record {
  appended : l.out.items ++ joined_parts (drop l.part-index l.parts) ≡ l.fn.out.items ++ joined_parts l.parts;
  capacity : vec_capacity l.fn.out ≤ vec_capacity l.out;
  room : vec_len l.out + length (joined_parts (drop l.part-index l.parts)) ≤ vec_capacity l.out;
  size : vec_len l.out + length (joined_parts (drop l.part-index l.parts)) ≡ vec_len l.fn.out + length (joined_parts l.parts);
}
