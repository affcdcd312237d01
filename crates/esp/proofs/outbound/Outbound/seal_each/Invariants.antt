use Rattle.std.proofs.Common.{◌+◌, ◌≤◌, vec_len, drop}
use Rattle.std.specs.Vec.{vec_capacity}
use Rattle.esp.specs.Sealing.{SealsFirst, most_octets, payloads_of}
use Rattle.esp.proofs.outbound.Outbound.seal_each.Given as goal

-- the payloads so far are sealed, and no more octets were taken than may be
abbrev pub invariant-loop-done : goal.invariant-loop-done
invariant-loop-done l = record {
  first : SealsFirst l.done l.fn.self l.next (payloads_of l.payloads) l.fn.out.items l.self l.out.items;
  capacity : vec_capacity l.fn.out ≤ vec_capacity l.out;
  room : vec_len l.out + most_octets (drop l.done (payloads_of l.payloads)) ≤ vec_len l.fn.out + most_octets (payloads_of l.payloads);
}
