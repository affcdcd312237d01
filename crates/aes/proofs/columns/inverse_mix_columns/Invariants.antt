use Rattle.std.proofs.Common.{◌≡◌, ℕ, ◌<◌, length, get_or, ◌+◌, ◌/◌, ◌%◌}
use Rattle.aes.specs.State.{cell, row_times}
use Rattle.aes.proofs.columns.inverse_mix_columns.Given as goal

abbrev pub invariant-loop-k : goal.invariant-loop-k
invariant-loop-k l = (length l.mixed ≡ 16) × ((k : ℕ) → k < l.k → get_or l.mixed k 0 ≡ row_times 0x0e 0x0b 0x0d 0x09 (cell l.state (k % 4) (k / 4)) (cell l.state ((k % 4 + 1) % 4) (k / 4)) (cell l.state ((k % 4 + 2) % 4) (k / 4)) (cell l.state ((k % 4 + 3) % 4) (k / 4)))
