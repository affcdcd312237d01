-- The gap passes the marks that follow it, and what they show is the set with the new number.
use Rattle.requests.proofs.SetLemmas.{IsInserted}
use Rattle.requests.proofs.numbers.NumberSet.insert.Given as goal

abbrev pub invariant-loop-self : goal.invariant-loop-self
invariant-loop-self l = IsInserted l.fn.self l.number l.self-inside.gap l.self-inside.marks

abbrev pub decreases-loop-self : goal.decreases-loop-self
decreases-loop-self l = l.self-inside.marks
