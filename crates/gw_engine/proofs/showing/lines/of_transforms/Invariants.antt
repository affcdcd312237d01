use Rattle.std.proofs.Common.{◌≡◌, string_bytes, take, flat_map}
use Rattle.gw_engine.specs.Showing.{transform_text}
use Rattle.gw_engine.proofs.showing.lines.of_transforms.Given as goal

abbrev pub invariant-loop-transform : goal.invariant-loop-transform
invariant-loop-transform l = string_bytes l.lines ≡ flat_map transform_text (take l.transform-index l.transforms)
