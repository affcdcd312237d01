use Rattle.policy.proofs.EntryLemmas.{IsSoundBefore}
use Rattle.policy.proofs.policy.Policy.new.Given as goal

abbrev pub invariant-loop-index : goal.invariant-loop-index
invariant-loop-index l = IsSoundBefore l.fn.entries l.index
