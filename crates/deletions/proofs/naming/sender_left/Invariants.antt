use Rattle.std.proofs.Common.{◌-◌, ◌≤◌, ◌^◌, ℕ}
use Rattle.sadb.specs.Database.{SendsUnder}
use Rattle.deletions.specs.Naming.{without}
use Rattle.deletions.proofs.naming.sender_left.Given as goal

-- none so far
abbrev pub invariant-loop-serial : goal.invariant-loop-serial
invariant-loop-serial l = (other : ℕ) → other ≤ l.passed → ¬ SendsUnder (without l.table.pairs l.gone) l.ike l.spi other

abbrev pub decreases-loop-serial : goal.decreases-loop-serial
decreases-loop-serial l = 2 ^ 32 - l.passed
