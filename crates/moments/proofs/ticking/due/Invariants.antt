-- what was added so far, and what is still to come, is what all send
use Rattle.std.proofs.Common.{◌≡◌, ◌++◌, drop}
use Rattle.std.specs.List.{flat_map}
use Rattle.moments.specs.Due.{sent_of}
use Rattle.moments.proofs.ticking.due.Given as goal

abbrev pub invariant-loop-association : goal.invariant-loop-association
invariant-loop-association l = l.requests ++ flat_map (sent_of l.now) (drop l.association-index l.associations) ≡ flat_map (sent_of l.now) l.associations
