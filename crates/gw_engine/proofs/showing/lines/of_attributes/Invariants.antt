use Rattle.std.proofs.Common.{◌≡◌, string_bytes, take, flat_map}
use Rattle.gw_engine.specs.Showing.{attribute_text}
use Rattle.gw_engine.proofs.showing.lines.of_attributes.Given as goal

abbrev pub invariant-loop-attribute : goal.invariant-loop-attribute
invariant-loop-attribute l = string_bytes l.text ≡ flat_map attribute_text (take l.attribute-index l.attributes)
