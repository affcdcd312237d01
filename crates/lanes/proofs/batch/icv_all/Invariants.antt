use Rattle.std.proofs.Common.{◌≡◌, ◌*◌, length, map, min, take}
use Rattle.lanes.specs.Task.{icv_of}
use Rattle.lanes.proofs.batch.icv_all.Given as goal

abbrev pub invariant-loop-batch : goal.invariant-loop-batch
invariant-loop-batch l =
    let done = min (64 * l.batch) (length l.tasks) in
    take done l.values ≡ map icv_of (take done l.tasks)
