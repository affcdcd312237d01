use Rattle.std.proofs.Common.{◌≡◌, ◌++◌, ◌+◌, ◌≤◌, List, length, map, take}
use Rattle.std.specs.Prelude.{vec_len}
use Rattle.std.specs.Vec.{vec_capacity}
use Rattle.esp.specs.Opening.{Answer}
use Rattle.esp.specs.Opening.{Run}
use Rattle.esp.proofs.inbound.Inbound.answer_with.Given as goal

-- the packets so far were delivered in order, and their answers appended
abbrev pub invariant-loop-done : goal.invariant-loop-done
invariant-loop-done g l = record {
  answers : List Answer;
  appended : l.out.items ≡ l.fn.out.items ++ answers;
  count : length answers ≡ l.done;
  run : Run g.W.Window.may_want l.fn.self (take l.done (map (λ p. p.now) l.packets)) answers l.self;
  length_now : vec_len l.out ≡ vec_len l.fn.out + l.done;
  capacity : vec_capacity l.fn.out ≤ vec_capacity l.out;
  association : l.self.association ≡ l.fn.self.association;
}
