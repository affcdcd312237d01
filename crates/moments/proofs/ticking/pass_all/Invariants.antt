-- those so far are passed, the others are as they were, and hold their SPIs
use Rattle.moments.proofs.PassingLemmas.{PassedTo}
use Rattle.moments.proofs.ticking.pass_all.Given as goal

abbrev pub invariant-loop-association : goal.invariant-loop-association
invariant-loop-association l = PassedTo l.now l.association-index l.initial.associations l.initial.table l.associations l.table
