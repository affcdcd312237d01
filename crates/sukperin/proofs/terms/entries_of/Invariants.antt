use Rattle.std.proofs.Common.{◌≡◌, Some, take}
use Rattle.sukperin.specs.Terms.{entries_spelled}
use Rattle.sukperin.proofs.terms.entries_of.Given as goal

-- the entries so far are spelled
abbrev pub invariant-loop-given : goal.invariant-loop-given
invariant-loop-given l = entries_spelled (take l.given-index l.entries) ≡ Some l.spelled
