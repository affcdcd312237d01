use Rattle.std.proofs.Common.{rules, arith, string_bytes}
use Rattle.gw_engine.specs.Showing.{selector_text}
use Rattle.gw_engine.proofs.ShowingLemmas.{one_more}
use Rattle.gw_engine.proofs.showing.lines.of_selectors.Goals as goal

pub loop-selector-preserved : goal.loop-selector-preserved
loop-selector-preserved c =
    one_more selector_text c.args.selectors.now c.loop-selector.selector-index _ (string_bytes c.loop-selector.lines) (string_bytes c.in_ok-of_selector.field-0) (string_bytes c.push_str.new.self)
    (omega (arith, c.loop-selector-test.true)) c.loop-selector.invariant c.in_ok-of_selector.ensures (search rules)
