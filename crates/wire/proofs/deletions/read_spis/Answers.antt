use Rattle.std.proofs.Common.{◌<◌, length, arith}
use Rattle.std.proofs.lemmas.Result.{err_from_is_err_and}
use Rattle.std.proofs.lemmas.Bool.Decides.{nat_tests}
use Rattle.wire.specs.Reading.{each_of, number_at}
use Rattle.wire.proofs.Pieces.{number_shrinks}
use Rattle.wire.proofs.Loops.{each_exits, each_goes_on, each_ends}
use Rattle.wire.proofs.deletions.read_spis.Goals as goal

pub returns-in_err-u32 : goal.returns-in_err-u32
returns-in_err-u32 c =
    let p = err_from_is_err_and c.from_residual.result c.from_residual.ensures.1 in
    let some : 0 < length c.loop-list.list.rest.now = grind (arith, nat_tests) in
    rw (p.1, p.2) (each_exits c.in_err-u32.field-0.0 (λ x. x) (λ x. x) (number_at 4) c.loop-list.spis c.loop-list.list.rest.now c.u32.new.self.rest.now (each_of (number_at 4) (length c.args.list.rest.now) c.args.list.rest.now) some c.in_err-u32.ensures.read c.loop-list.invariant)

pub loop-list-preserved : goal.loop-list-preserved
loop-list-preserved c =
    let some : 0 < length c.loop-list.list.rest.now = grind (arith, nat_tests) in
    let less : length c.u32.new.self.rest.now < length c.loop-list.list.rest.now = omega (arith, number_shrinks 4 c.loop-list.list.rest.now (c.in_ok-u32.field-0, c.u32.new.self.rest.now) c.in_ok-u32.ensures.read) in
    rw c.in_ok-push.ensures.ok (each_goes_on (number_at 4) c.loop-list.spis c.loop-list.list.rest.now (each_of (number_at 4) (length c.args.list.rest.now) c.args.list.rest.now) c.in_ok-u32.field-0 c.u32.new.self.rest.now some less c.in_ok-u32.ensures.read c.loop-list.invariant)

pub returns : goal.returns
returns c = each_ends (number_at 4) c.loop-list.spis c.loop-list.list.rest.now (each_of (number_at 4) (length c.args.list.rest.now) c.args.list.rest.now) (grind (arith, nat_tests)) c.loop-list.invariant
