use Rattle.std.proofs.Common.{List, ◌++◌, drop}
use Rattle.base.specs.declared.selector.Selector.{Selector}
use Rattle.policy.specs.Narrowing.{IsNarrowed}
use Rattle.policy.proofs.narrowing.narrow_list.Given as goal

-- whatever the rest is narrowed to follows
abbrev pub invariant-loop-selector : goal.invariant-loop-selector
invariant-loop-selector l = (rest : List Selector) → IsNarrowed l.side (drop l.selector-index l.offered) rest → IsNarrowed l.side l.offered (l.narrowed ++ rest)
