-- what was added, and what those that are left add, is what all add; where all add nothing these don't either
use Rattle.std.proofs.Common.{◌≡◌, ◌++◌, []}
use Rattle.requests.specs.Outstanding.{requests_left}
use Rattle.moments.specs.Due.{due_of}
use Rattle.moments.proofs.DueLemmas.{due_among}
use Rattle.moments.proofs.due.append_due.Given as goal

abbrev pub invariant-loop-number : goal.invariant-loop-number
invariant-loop-number l = record {
  all : l.requests ++ due_among l.now l.association (requests_left l.number-iterator) ≡ l.initial.requests ++ due_of l.now l.association;
  none : due_of l.now l.association ≡ [] → due_among l.now l.association (requests_left l.number-iterator) ≡ [];
}
