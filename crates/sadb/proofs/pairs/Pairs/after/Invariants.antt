use Rattle.std.proofs.Common.{◌≡◌, ◌<◌, ℕ, Some, IsSome}
use Rattle.std.specs.FinMap as map
use Rattle.sadb.proofs.PairsLemmas.{Walk, NotBelow}
use Rattle.sadb.proofs.pairs.Pairs.after.Given as goal

-- the first serial so far is an SA pair's, lies above the one asked for, and not above that of any pair met
abbrev pub invariant-loop-pair : goal.invariant-loop-pair
invariant-loop-pair l = record {
  can_next : (goal.iterator-loop-pair).can_next l.pair-iterator;
  is_finite : (goal.iterator-loop-pair).is_finite l.pair-iterator;
  walk : Walk l.self.pairs l.pair-iterator (λ pair. l.fn.serial < pair.serial) (NotBelow l.first);
  first : (first : ℕ) → l.first ≡ Some first → (l.fn.serial < first) × IsSome (map.get l.self.pairs first);
}
