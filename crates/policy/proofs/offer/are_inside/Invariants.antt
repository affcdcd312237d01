use Rattle.policy.specs.Narrowing.{LiesInOffer}
use Rattle.policy.proofs.Scanning.{HoldsOfEachBefore}
use Rattle.policy.proofs.offer.are_inside.Given as goal

abbrev pub invariant-loop-selector : goal.invariant-loop-selector
invariant-loop-selector l = HoldsOfEachBefore (LiesInOffer l.offered) l.answer l.selector-index
