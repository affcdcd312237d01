use Rattle.std.proofs.Common.{◌+◌, ◌<◌, List, length, arith}
use Rattle.std.proofs.lemmas.Result.{err_from_is_err_and}
use Rattle.std.proofs.lemmas.Bool.Decides.{nat_tests}
use Rattle.base.specs.declared.selector.Selector.{Selector}
use Rattle.wire.specs.Reading.{each_of, selector_at}
use Rattle.wire.proofs.Pieces.{selector_shrinks}
use Rattle.wire.proofs.Passing.{counts_next, each_is_found, each_passes, each_stops, no_item}
use Rattle.wire.proofs.checking.count_selectors.Goals as goal

pub loop-list-smaller : goal.loop-list-smaller
loop-list-smaller c = selector_shrinks c.loop-list.list.rest.now (c.in_ok-read_selector.field-0, c.read_selector.new.list.rest.now) c.in_ok-read_selector.ensures.read

pub loop-list-preserved : goal.loop-list-preserved
loop-list-preserved c =
    let some : 0 < length c.loop-list.list.rest.now = grind (arith, nat_tests) in
    let less : length c.read_selector.new.list.rest.now < length c.loop-list.list.rest.now = selector_shrinks c.loop-list.list.rest.now (c.in_ok-read_selector.field-0, c.read_selector.new.list.rest.now) c.in_ok-read_selector.ensures.read in (
      each_passes selector_at (λ (xs : List Selector). length xs) c.loop-list.count (c.loop-list.count + 1) c.loop-list.list.rest.now (each_of selector_at (length c.args.list.rest.now) c.args.list.rest.now) c.in_ok-read_selector.field-0 c.read_selector.new.list.rest.now some less c.in_ok-read_selector.ensures.read (counts_next c.loop-list.count c.in_ok-read_selector.field-0) c.loop-list.invariant.0,
      omega (arith, less, c.loop-list.invariant.1),
    )

pub returns-in_err-read_selector : goal.returns-in_err-read_selector
returns-in_err-read_selector c =
    let p = err_from_is_err_and c.from_residual.result c.from_residual.ensures.1 in
    let some : 0 < length c.loop-list.list.rest.now = grind (arith, nat_tests) in
    rw (p.1) (each_stops selector_at (λ (xs : List Selector). length xs) c.loop-list.count c.loop-list.list.rest.now (each_of selector_at (length c.args.list.rest.now) c.args.list.rest.now) some (no_item c.in_err-read_selector.field-0.0 (λ (x : Selector). x) c.read_selector.new.list.rest.now _ c.in_err-read_selector.ensures.free c.in_err-read_selector.ensures.read) c.loop-list.invariant.0)

pub returns : goal.returns
returns c = each_is_found selector_at (λ (xs : List Selector). length xs) c.loop-list.count c.loop-list.list.rest.now (each_of selector_at (length c.args.list.rest.now) c.args.list.rest.now) (grind (arith, nat_tests)) c.loop-list.invariant.0
