use Rattle.std.proofs.Common.{ℕ, ◌<◌, ◌≤◌, slice_index}
use Rattle.lanes.specs.Lane.{IsLane}
use Rattle.lanes.proofs.stream.first_to_end.Given as goal

abbrev pub invariant-loop-j : goal.invariant-loop-j
invariant-loop-j l = IsLane l.first × ((j : ℕ) → j < l.j → slice_index l.left l.first ≤ slice_index l.left j)
