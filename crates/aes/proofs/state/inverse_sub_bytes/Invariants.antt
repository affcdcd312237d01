use Rattle.std.proofs.Common.{◌≡◌, ℕ, ◌<◌, length, get_or, ◌/◌, ◌%◌}
use Rattle.aes.specs.Substitution.{inv_sub_byte}
use Rattle.aes.specs.State.{cell}
use Rattle.aes.proofs.state.inverse_sub_bytes.Given as goal

abbrev pub invariant-loop-k : goal.invariant-loop-k
invariant-loop-k l = (length l.substituted ≡ 16) × ((k : ℕ) → k < l.k → get_or l.substituted k 0 ≡ inv_sub_byte (cell l.state (k % 4) (k / 4)))
