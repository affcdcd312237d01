use Rattle.std.proofs.Common.{◌≡◌, ◌+◌, ◌≤◌, drop}
use Rattle.suite.specs.Offers.{count_of_kind}
use Rattle.suite.proofs.offers.count_of_kind.Given as goal

abbrev pub invariant-loop-transform : goal.invariant-loop-transform
invariant-loop-transform l = (l.count + count_of_kind (drop l.transform-index l.transforms) l.kind ≡ count_of_kind l.transforms l.kind) × (l.count ≤ l.transform-index)
