use Rattle.lanes.specs.Task.{AreShared}
use Rattle.lanes.proofs.batch.write_in_lanes.Given as goal

abbrev pub invariant-loop-at : goal.invariant-loop-at
invariant-loop-at l = AreShared l.tasks l.places l.initial.values l.values l.queue l.queued l.at l.start
