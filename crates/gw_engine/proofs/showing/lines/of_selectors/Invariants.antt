use Rattle.std.proofs.Common.{◌≡◌, string_bytes, take, flat_map}
use Rattle.gw_engine.specs.Showing.{selector_text}
use Rattle.gw_engine.proofs.showing.lines.of_selectors.Given as goal

abbrev pub invariant-loop-selector : goal.invariant-loop-selector
invariant-loop-selector l = string_bytes l.lines ≡ flat_map selector_text (take l.selector-index l.selectors)
