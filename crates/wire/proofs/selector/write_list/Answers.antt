use Rattle.std.proofs.Common.{get_or}
use Rattle.std.proofs.lemmas.Result.{err_from_is_err_and}
use Rattle.base.specs.declared.address.Range.TheVariants.{V4}
use Rattle.base.specs.declared.selector.Selector.{Selector}
use Rattle.wire.specs.Writing.{each_onto, selector_onto}
use Rattle.wire.proofs.WritingLoops.{each_next, each_stops, each_done, any_default}
use Rattle.wire.proofs.selector.write_list.Goals as goal

abbrev nothing : Selector
nothing = record { protocol = 0; start_port = 0; end_port = 0; addresses = V4 0 0 }

pub returns-in_err-write_selector : goal.returns-in_err-write_selector
returns-in_err-write_selector c =
    let p = err_from_is_err_and c.from_residual.result c.from_residual.ensures.1 in
    rw (p.1, p.2) (each_stops selector_onto c.in_err-write_selector.field-0.0 c.args.selectors.now c.loop-selector.selector-index (get_or c.args.selectors.now c.loop-selector.selector-index nothing) c.loop-selector.out.items (each_onto selector_onto c.args.selectors.now c.args.out.now.items) c.loop-selector-test.true (any_default c.args.selectors.now c.loop-selector.selector-index nothing c.loop-selector-test.true) c.loop-selector.invariant c.in_err-write_selector.ensures)

pub loop-selector-preserved : goal.loop-selector-preserved
loop-selector-preserved c = each_next selector_onto c.args.selectors.now c.loop-selector.selector-index (get_or c.args.selectors.now c.loop-selector.selector-index nothing) c.loop-selector.out.items c.write_selector.new.out.items (each_onto selector_onto c.args.selectors.now c.args.out.now.items) c.loop-selector-test.true (any_default c.args.selectors.now c.loop-selector.selector-index nothing c.loop-selector-test.true) c.loop-selector.invariant c.in_ok-write_selector.ensures

pub returns : goal.returns
returns c = each_done selector_onto c.args.selectors.now c.loop-selector.selector-index c.loop-selector.out.items (each_onto selector_onto c.args.selectors.now c.args.out.now.items) c.loop-selector-test.false c.loop-selector.invariant
