use Rattle.std.proofs.Common.{◌≡◌, ◌≤◌, take}
use Rattle.std.specs.List.{count_by}
use Rattle.ike.specs.Machines.{is_half_open}
use Rattle.ike.proofs.held.half_open_count.Given as goal

abbrev pub invariant-loop-association : goal.invariant-loop-association
invariant-loop-association l = (l.count ≡ count_by is_half_open (take l.association-index l.associations)) × (l.count ≤ l.association-index)
