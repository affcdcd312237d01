use Rattle.std.proofs.Common.{◌≡◌, ℕ, ◌<◌, length, get_or, bit_xor}
use Rattle.caller_script.proofs.agreement.exclusive_or.Given as goal

abbrev pub invariant-loop-k : goal.invariant-loop-k
invariant-loop-k l = (length l.both ≡ 32) × ((k : ℕ) → k < l.k → get_or l.both k 0 ≡ bit_xor (get_or l.a k 0) (get_or l.b k 0))
