use Rattle.std.proofs.Common.{◌≡◌, ◌+◌, ◌*◌, ◌≤◌, length, min, vec_len}
use Rattle.std.specs.Vec.{vec_capacity}
use Rattle.esp.specs.Ahead.{RunsFirst}
use Rattle.esp.specs.Delivery.{octets_of}
use Rattle.esp.proofs.inbound.Inbound.answer_each.Given as goal

-- the groups so far were delivered in order, and their answers appended
abbrev pub invariant-loop-group : goal.invariant-loop-group
invariant-loop-group g l = record {
  first : RunsFirst g.W.Window.may_want (min (64 * l.group) (length l.packets)) l.fn.self (octets_of l.packets) l.fn.out.items l.self l.out.items;
  length_now : vec_len l.out ≡ vec_len l.fn.out + min (64 * l.group) (length l.packets);
  capacity : vec_capacity l.fn.out ≤ vec_capacity l.out;
}
