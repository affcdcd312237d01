use Rattle.std.proofs.Common.{◌≡◌, ◌-◌}
use Rattle.aes.specs.Cipher.{rounds}
use Rattle.aes.proofs.cipher.cipher.Given as goal

-- one round for each number below
abbrev pub invariant-loop-round : goal.invariant-loop-round
invariant-loop-round l = l.state ≡ rounds l.schedule l.block (l.round - 1)
