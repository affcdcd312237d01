use Rattle.std.proofs.Common.{◌*◌, length, min}
use Rattle.lanes.specs.Task.{AreWritten}
use Rattle.lanes.proofs.batch.write_stream.Given as goal

abbrev pub invariant-loop-group : goal.invariant-loop-group
invariant-loop-group l = AreWritten l.tasks l.initial.values l.values l.queue (min (8 * l.group) (length l.queue))
