use Rattle.std.proofs.Common.{◌<◌, length, arith}
use Rattle.std.proofs.lemmas.Result.{err_from_is_err_and}
use Rattle.std.proofs.lemmas.Bool.Decides.{nat_tests}
use Rattle.wire.specs.Reading.{each_of, selector_at}
use Rattle.wire.proofs.Pieces.{selector_shrinks}
use Rattle.wire.proofs.Loops.{each_exits, each_goes_on, each_ends}
use Rattle.wire.proofs.selector.read_list.Goals as goal

pub returns-in_err-read_selector : goal.returns-in_err-read_selector
returns-in_err-read_selector c =
    let p = err_from_is_err_and c.from_residual.result c.from_residual.ensures.1 in
    let some : 0 < length c.loop-list.list.rest.now = grind (arith, nat_tests) in
    rw (p.1, p.2) (each_exits c.in_err-read_selector.field-0.0 (λ x. x) (λ x. x) selector_at c.loop-list.selectors c.loop-list.list.rest.now c.read_selector.new.list.rest.now (each_of selector_at (length c.args.list.rest.now) c.args.list.rest.now) some c.in_err-read_selector.ensures.read c.loop-list.invariant)

pub loop-list-smaller : goal.loop-list-smaller
loop-list-smaller c = omega (arith, selector_shrinks c.loop-list.list.rest.now (c.in_ok-read_selector.field-0, c.read_selector.new.list.rest.now) c.in_ok-read_selector.ensures.read)

pub loop-list-preserved : goal.loop-list-preserved
loop-list-preserved c =
    let some : 0 < length c.loop-list.list.rest.now = grind (arith, nat_tests) in
    let less : length c.read_selector.new.list.rest.now < length c.loop-list.list.rest.now = omega (arith, selector_shrinks c.loop-list.list.rest.now (c.in_ok-read_selector.field-0, c.read_selector.new.list.rest.now) c.in_ok-read_selector.ensures.read) in
    rw c.in_ok-push.ensures.ok (each_goes_on selector_at c.loop-list.selectors c.loop-list.list.rest.now (each_of selector_at (length c.args.list.rest.now) c.args.list.rest.now) c.in_ok-read_selector.field-0 c.read_selector.new.list.rest.now some less c.in_ok-read_selector.ensures.read c.loop-list.invariant)

pub returns : goal.returns
returns c = each_ends selector_at c.loop-list.selectors c.loop-list.list.rest.now (each_of selector_at (length c.args.list.rest.now) c.args.list.rest.now) (grind (arith, nat_tests)) c.loop-list.invariant
