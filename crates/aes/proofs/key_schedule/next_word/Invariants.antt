use Rattle.std.proofs.Common.{◌≡◌, ℕ, ◌<◌, ◌-◌, length, get_or, bit_xor}
use Rattle.aes.specs.KeyExpansion.{added_octet, word_octet}
use Rattle.aes.proofs.key_schedule.next_word.Given as goal

abbrev pub invariant-loop-r : goal.invariant-loop-r
invariant-loop-r l = (length l.word ≡ 4) × ((k : ℕ) → k < l.r → get_or l.word k 0 ≡ bit_xor (word_octet l.words (l.i - 8) k) (added_octet l.words l.i k))
