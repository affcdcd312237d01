-- what was added so far, and what is still to come, is what all add
use Rattle.std.proofs.Common.{◌≡◌, ◌++◌, drop}
use Rattle.std.specs.List.{flat_map}
use Rattle.moments.specs.Due.{closed_of}
use Rattle.moments.proofs.ticking.failed.Given as goal

abbrev pub invariant-loop-association : goal.invariant-loop-association
invariant-loop-association l = l.closed ++ flat_map (closed_of l.now) (drop l.association-index l.associations) ≡ flat_map (closed_of l.now) l.associations
