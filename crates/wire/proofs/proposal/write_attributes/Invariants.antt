use Rattle.std.proofs.Common.{◌≡◌, drop}
use Rattle.wire.specs.Writing.{each_onto, attribute_onto}
use Rattle.wire.proofs.proposal.write_attributes.Given as goal

abbrev pub invariant-loop-attribute : goal.invariant-loop-attribute
invariant-loop-attribute l = each_onto attribute_onto (drop l.attribute-index l.attributes) l.out.items ≡ each_onto attribute_onto l.attributes l.initial.out.items
