use Rattle.std.proofs.Common.{◌≡◌, ◌==◌, drop}
use Rattle.std.specs.List.{list_all}
use Rattle.suite.specs.Offers.{count_of_kind}
use Rattle.suite.proofs.offers.has_one_each.Given as goal

abbrev pub invariant-loop-kind : goal.invariant-loop-kind
invariant-loop-kind l = list_all (λ kind. count_of_kind l.transforms kind == 1) (drop l.kind-index l.kinds) ≡ list_all (λ kind. count_of_kind l.transforms kind == 1) l.kinds
