use Rattle.std.proofs.Common.{◌≡◌, drop}
use Rattle.wire.specs.Writing.{marked_from, transform_onto}
use Rattle.wire.proofs.proposal.write_transforms.Given as goal

abbrev pub invariant-loop-place : goal.invariant-loop-place
invariant-loop-place l = marked_from 3 transform_onto (drop l.place l.transforms) l.out.items ≡ marked_from 3 transform_onto l.transforms l.initial.out.items
