use Rattle.std.proofs.Common.{◌≡◌, ◌-◌}
use Rattle.aes.specs.Cipher.{inv_rounds}
use Rattle.aes.proofs.cipher.inverse_cipher.Given as goal

-- one round for each number below
abbrev pub invariant-loop-done : goal.invariant-loop-done
invariant-loop-done l = l.state ≡ inv_rounds l.schedule l.block (l.done - 1)
