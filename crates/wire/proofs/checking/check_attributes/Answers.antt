use Rattle.std.proofs.Common.{◌<◌, length, true, refl, arith}
use Rattle.std.proofs.lemmas.Result.{err_from_is_err_and}
use Rattle.std.proofs.lemmas.Bool.Decides.{nat_tests}
use Rattle.wire.specs.Reading.{each_of, attribute_at}
use Rattle.wire.proofs.Pieces.{attribute_shrinks}
use Rattle.wire.proofs.Passing.{each_is_found, each_passes, each_stops}
use Rattle.wire.proofs.checking.check_attributes.Goals as goal

pub loop-list-smaller : goal.loop-list-smaller
loop-list-smaller c = attribute_shrinks c.loop-list.list.rest.now (c.in_ok-pass_attribute.ensures.0, c.pass_attribute.new.list.rest.now) c.in_ok-pass_attribute.ensures.1

pub loop-list-preserved : goal.loop-list-preserved
loop-list-preserved c =
    let some : 0 < length c.loop-list.list.rest.now = grind (arith, nat_tests) in
    let less : length c.pass_attribute.new.list.rest.now < length c.loop-list.list.rest.now = attribute_shrinks c.loop-list.list.rest.now (c.in_ok-pass_attribute.ensures.0, c.pass_attribute.new.list.rest.now) c.in_ok-pass_attribute.ensures.1 in
    each_passes attribute_at (λ _. true) true true c.loop-list.list.rest.now (each_of attribute_at (length c.args.list.rest.now) c.args.list.rest.now) c.in_ok-pass_attribute.ensures.0 c.pass_attribute.new.list.rest.now some less c.in_ok-pass_attribute.ensures.1 (λ _ _. refl) c.loop-list.invariant

pub returns-in_err-pass_attribute : goal.returns-in_err-pass_attribute
returns-in_err-pass_attribute c =
    let p = err_from_is_err_and c.from_residual.result c.from_residual.ensures.1 in
    let some : 0 < length c.loop-list.list.rest.now = grind (arith, nat_tests) in
    rw (p.1) (each_stops attribute_at (λ _. true) true c.loop-list.list.rest.now (each_of attribute_at (length c.args.list.rest.now) c.args.list.rest.now) some c.in_err-pass_attribute.ensures c.loop-list.invariant)

pub returns : goal.returns
returns c =
    let found = each_is_found attribute_at (λ _. true) true c.loop-list.list.rest.now (each_of attribute_at (length c.args.list.rest.now) c.args.list.rest.now) (grind (arith, nat_tests)) c.loop-list.invariant in
    (found.0, found.1)
