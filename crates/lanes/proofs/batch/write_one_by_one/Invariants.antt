use Rattle.lanes.specs.Task.{AreWritten}
use Rattle.lanes.proofs.batch.write_one_by_one.Given as goal

abbrev pub invariant-loop-k : goal.invariant-loop-k
invariant-loop-k l = AreWritten l.tasks l.initial.values l.values l.places l.k
