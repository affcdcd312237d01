use Rattle.moments.proofs.NextLemmas.{LookedTo}
use Rattle.moments.proofs.next.next_due.Given as goal

abbrev pub invariant-loop-association : goal.invariant-loop-association
invariant-loop-association l = LookedTo l.association-index l.next l.associations
