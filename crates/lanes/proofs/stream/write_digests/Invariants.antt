use Rattle.std.proofs.Common.{◌≡◌, ℕ, List, Some, length, slice_get, slice_index}
use Rattle.lanes.specs.Lane.{IsLane, lane}
use Rattle.lanes.specs.Stream.{DigestsWritten, inner_digest}
use Rattle.lanes.specs.declared.task.Task.{Task}
use Rattle.lanes.proofs.stream.write_digests.Given as goal

abbrev pub invariant-loop-j : goal.invariant-loop-j
invariant-loop-j l = (length l.digests ≡ 64) × ((tasks : List Task) → ((j : ℕ) → IsLane j → (task : Task) → slice_get tasks (slice_index l.places j) ≡ Some task → lane j l.state ≡ inner_digest task)
    → DigestsWritten tasks l.initial.digests l.digests l.places l.j)
