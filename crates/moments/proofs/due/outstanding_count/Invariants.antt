use Rattle.std.proofs.Common.{◌≡◌, ◌+◌, ◌*◌, ◌≤◌, drop}
use Rattle.moments.specs.Due.{outstanding_count}
use Rattle.moments.proofs.due.outstanding_count.Given as goal

abbrev pub invariant-loop-association : goal.invariant-loop-association
invariant-loop-association l = record { all : l.count + outstanding_count (drop l.association-index l.associations) ≡ outstanding_count l.associations; few : l.count ≤ 16 * l.association-index }
