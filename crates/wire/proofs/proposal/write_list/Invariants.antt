use Rattle.std.proofs.Common.{◌≡◌, drop}
use Rattle.wire.specs.Writing.{marked_from, proposal_onto}
use Rattle.wire.proofs.proposal.write_list.Given as goal

abbrev pub invariant-loop-place : goal.invariant-loop-place
invariant-loop-place l = marked_from 2 proposal_onto (drop l.place l.proposals) l.out.items ≡ marked_from 2 proposal_onto l.proposals l.initial.out.items
