use Rattle.std.proofs.Common.{◌≡◌, None, drop}
use Rattle.requests.specs.Storage.{next_above}
use Rattle.requests.proofs.by_number.next_number.Given as goal

abbrev pub invariant-loop-entry : goal.invariant-loop-entry
invariant-loop-entry g l = next_above l.low l.first (drop l.entry-index l.entries) ≡ next_above l.low None l.entries
