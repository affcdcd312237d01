use Rattle.std.proofs.Common.{◌≡◌, ℕ, ◌<◌, length, get_or, bit_xor}
use Rattle.caller_peer.proofs.chaining.both.Given as goal

abbrev pub invariant-loop-k : goal.invariant-loop-k
invariant-loop-k l = (length l.sum ≡ 16) × ((k : ℕ) → k < l.k → get_or l.sum k 0 ≡ bit_xor (get_or l.one k 0) (get_or l.other k 0))
