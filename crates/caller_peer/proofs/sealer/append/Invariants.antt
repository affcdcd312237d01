use Rattle.std.proofs.Common.{◌≡◌, ◌+◌, ◌≤◌, ◌++◌, length, vec_len, drop}
use Rattle.std.specs.List.{flat_map}
use Rattle.std.specs.Vec.{vec_capacity}
use Rattle.caller_peer.proofs.sealer.append.Given as goal

-- the parts so far were appended behind what stood there, and there is room for the others
abbrev pub invariant-loop-part : goal.invariant-loop-part
invariant-loop-part l = record {
  appended : l.out.items ++ flat_map (λ part. part.now) (drop l.part-index l.parts) ≡ l.fn.out.items ++ flat_map (λ part. part.now) l.parts;
  capacity : vec_capacity l.fn.out ≤ vec_capacity l.out;
  room : vec_len l.out + length (flat_map (λ part. part.now) (drop l.part-index l.parts)) ≤ vec_capacity l.out;
}
