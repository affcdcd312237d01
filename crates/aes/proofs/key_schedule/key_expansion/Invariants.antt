use Rattle.std.proofs.Common.{◌≡◌, ◌-◌, ◌*◌, length, take}
use Rattle.aes.specs.KeyExpansion.{expanded}
use Rattle.aes.proofs.key_schedule.key_expansion.Given as goal

-- the words so far
abbrev pub invariant-loop-i : goal.invariant-loop-i
invariant-loop-i l = (length l.schedule ≡ 240) × (take (4 * l.i) l.schedule ≡ expanded l.key (l.i - 8))
