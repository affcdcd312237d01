use Rattle.std.proofs.Common.{ℕ, ◌<◌}
use Rattle.lanes.specs.Task.{FitsALane}
use Rattle.lanes.proofs.batch.fit_lanes.Given as goal

abbrev pub invariant-loop-task : goal.invariant-loop-task
invariant-loop-task l = (place : ℕ) → place < l.task-index → FitsALane l.tasks place
