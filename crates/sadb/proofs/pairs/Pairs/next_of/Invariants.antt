use Rattle.std.proofs.Common.{◌<◌, ◌≤◌, ◌+◌, ℕ}
use Rattle.sadb.specs.Database.{BelongsTo}
use Rattle.sadb.proofs.pairs.Pairs.next_of.Given as goal

-- none so far
abbrev pub invariant-loop-other : goal.invariant-loop-other
invariant-loop-other l = (other : ℕ) → l.fn.serial + 1 ≤ other → other < l.other → ¬ BelongsTo l.self.pairs l.ike other
