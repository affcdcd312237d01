use Rattle.std.specs.FinMap as map
use Rattle.association.proofs.GivingUpLemmas.{GivesUpSome}
use Rattle.association.proofs.phase.give_up_requests.Given as goal

abbrev pub invariant-loop-number : goal.invariant-loop-number
invariant-loop-number l = GivesUpSome l.initial.requests l.initial.table l.requests l.table

abbrev pub decreases-loop-number : goal.decreases-loop-number
decreases-loop-number l = map.len l.requests.outstanding
