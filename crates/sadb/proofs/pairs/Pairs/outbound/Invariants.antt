use Rattle.std.proofs.Common.{◌≤◌, ℕ}
use Rattle.sadb.specs.Database.{Carries}
use Rattle.sadb.proofs.pairs.Pairs.outbound.Given as goal

-- none from here up
abbrev pub invariant-loop-serial : goal.invariant-loop-serial
invariant-loop-serial l = (other : ℕ) → l.serial ≤ other → ¬ Carries l.self.pairs l.flow other
