use Rattle.std.proofs.Common.{◌≡◌, ℕ, ◌<◌, length, get_or, ◌+◌, ◌*◌, ◌/◌, ◌%◌, bit_xor, slice_index}
use Rattle.aes.specs.State.{cell}
use Rattle.aes.proofs.state.add_round_key.Given as goal

abbrev pub invariant-loop-k : goal.invariant-loop-k
invariant-loop-k l = (length l.added ≡ 16) × ((k : ℕ) → k < l.k → get_or l.added k 0 ≡ bit_xor (cell l.state (k % 4) (k / 4)) (slice_index l.schedule (4 * (4 * l.round + k / 4) + k % 4)))
