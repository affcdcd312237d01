use Rattle.lanes.specs.Task.{AreWritten}
use Rattle.lanes.proofs.batch.write_eight.Given as goal

abbrev pub invariant-loop-j : goal.invariant-loop-j
invariant-loop-j l = AreWritten l.tasks l.initial.values l.values l.places l.j
