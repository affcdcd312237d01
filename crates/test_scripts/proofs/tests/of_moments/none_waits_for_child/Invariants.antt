-- none so far does
use Rattle.std.proofs.Common.{All, take}
use Rattle.association.specs.Closing.{HoldsNoSpi}
use Rattle.test_scripts.proofs.tests.of_moments.none_waits_for_child.Given as goal

abbrev pub invariant-loop-association : goal.invariant-loop-association
invariant-loop-association l = All HoldsNoSpi (take l.association-index l.associations)
