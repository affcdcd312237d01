use Rattle.std.proofs.Common.{◌≡◌, ℕ, ◌+◌, ◌<◌, ◌≤◌, length, slice_index}
use Rattle.lanes.proofs.stream.all_taken.Given as goal

abbrev pub invariant-loop-j : goal.invariant-loop-j
invariant-loop-j l = ((k : ℕ) → k < l.j → slice_index l.sums k ≡ slice_index l.taken k + l.count) × ((k : ℕ) → l.j ≤ k → slice_index l.sums k ≡ slice_index l.taken k) × (length l.sums ≡ 8)
