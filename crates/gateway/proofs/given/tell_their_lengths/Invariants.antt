use Rattle.std.proofs.Common.{drop, map}
use Rattle.effects.specs.Taking.{meaning_of}
use Rattle.gateway.specs.Inputs.{input_view}
use Rattle.gateway.specs.Lengths.{AreGiven}
use Rattle.gateway.proofs.given.tell_their_lengths.Given as goal

-- if so it is of the inputs to come, it is so of all
abbrev pub invariant-loop-input : goal.invariant-loop-input
invariant-loop-input g l =
    AreGiven (meaning_of g.C.Sealer g.C.Agreement g.C.Proof l.caller) (map input_view (drop l.input-index l.inputs))
    → AreGiven (meaning_of g.C.Sealer g.C.Agreement g.C.Proof l.caller) (map input_view l.inputs)
