use Rattle.std.proofs.Common.{◌≡◌, ℕ, ◌<◌, length, get_or, ◌+◌, ◌/◌, ◌%◌}
use Rattle.aes.specs.State.{cell}
use Rattle.aes.proofs.state.shift_rows.Given as goal

abbrev pub invariant-loop-k : goal.invariant-loop-k
invariant-loop-k l = (length l.shifted ≡ 16) × ((k : ℕ) → k < l.k → get_or l.shifted k 0 ≡ cell l.state (k % 4) ((k / 4 + k % 4) % 4))
