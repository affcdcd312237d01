use Rattle.std.proofs.Common.{◌≡◌, length}
use Rattle.sukperin.specs.Lists.{AreInputsAt}
use Rattle.sukperin.proofs.lists.set_inputs.Given as goal

-- the inputs so far are the packets at their places
abbrev pub invariant-loop-turn : goal.invariant-loop-turn
invariant-loop-turn l = record {
  inputs : AreInputsAt l.octets l.places l.turn l.inputs;
  long : length l.inputs ≡ length l.fn.inputs;
}
