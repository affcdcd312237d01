use Rattle.std.proofs.Common.{◌+◌, ◌<◌, Bool, List, length, true, subst, sym, ◌∙◌, arith}
use Rattle.std.proofs.lemmas.Result.{err_from_is_err_and}
use Rattle.wire.specs.declared.reader.Part.{Part}
use Rattle.wire.specs.declared.proposal.Transform.{Transform}
use Rattle.wire.specs.Reading.{marked_of, piece_of, transform_of}
use Rattle.wire.proofs.Pieces.{part_shrinks}
use Rattle.wire.proofs.Passing.{PartsFound, counts_next, no_item, no_mark, parts_are_found, parts_astray, parts_pass, parts_short, parts_stop, parts_trail}
use Rattle.wire.proofs.checking.count_transforms.Goals as goal

pub returns-in_err-part : goal.returns-in_err-part
returns-in_err-part c =
    let p = err_from_is_err_and c.from_residual.result c.from_residual.ensures.1 in
    let at = subst (λ (b : Bool). PartsFound 3 transform_of (λ (ts : List Transform). length ts) c.loop-another.count b c.loop-another.list.rest.now (marked_of 3 transform_of (length c.args.list.rest.now) true c.args.list.rest.now)) c.loop-another-test.true c.loop-another.invariant.0 in
    rw (p.1) (parts_short 3 transform_of (λ (ts : List Transform). length ts) c.loop-another.count c.loop-another.list.rest.now (marked_of 3 transform_of (length c.args.list.rest.now) true c.args.list.rest.now) (no_item c.in_err-part.field-0.0 (λ (x : Part). piece_of x.first x.second x.inside.rest.now) c.part.new.self.rest.now _ c.in_err-part.ensures.free c.in_err-part.ensures.read) at)

pub returns-in_err-another : goal.returns-in_err-another
returns-in_err-another c =
    let p = err_from_is_err_and c.from_residual-in_err-another.result c.from_residual-in_err-another.ensures.1 in
    let at = subst (λ (b : Bool). PartsFound 3 transform_of (λ (ts : List Transform). length ts) c.loop-another.count b c.loop-another.list.rest.now (marked_of 3 transform_of (length c.args.list.rest.now) true c.args.list.rest.now)) c.loop-another-test.true c.loop-another.invariant.0 in
    rw (p.1) (parts_astray 3 transform_of (λ (ts : List Transform). length ts) c.loop-another.count c.loop-another.list.rest.now (marked_of 3 transform_of (length c.args.list.rest.now) true c.args.list.rest.now) (piece_of c.in_ok-part.part.first c.in_ok-part.part.second c.in_ok-part.part.inside.rest.now) c.part.new.self.rest.now c.in_ok-part.ensures.read (no_mark c.in_err-another.field-0.0 3 c.in_ok-part.part.first c.in_err-another.ensures.free c.in_err-another.ensures.read) at)

pub returns-in_err-check_transform : goal.returns-in_err-check_transform
returns-in_err-check_transform c =
    let p = err_from_is_err_and c.from_residual-in_err-check_transform.result c.from_residual-in_err-check_transform.ensures.1 in
    let at = subst (λ (b : Bool). PartsFound 3 transform_of (λ (ts : List Transform). length ts) c.loop-another.count b c.loop-another.list.rest.now (marked_of 3 transform_of (length c.args.list.rest.now) true c.args.list.rest.now)) c.loop-another-test.true c.loop-another.invariant.0 in
    rw (p.1) (parts_stop 3 transform_of (λ (ts : List Transform). length ts) c.loop-another.count c.loop-another.list.rest.now (marked_of 3 transform_of (length c.args.list.rest.now) true c.args.list.rest.now) (piece_of c.in_ok-part.part.first c.in_ok-part.part.second c.in_ok-part.part.inside.rest.now) c.part.new.self.rest.now c.in_ok-another.another c.in_ok-part.ensures.read c.in_ok-another.ensures.read c.in_err-check_transform.ensures at)

pub loop-another-smaller : goal.loop-another-smaller
loop-another-smaller c = part_shrinks c.loop-another.list.rest.now (piece_of c.in_ok-part.part.first c.in_ok-part.part.second c.in_ok-part.part.inside.rest.now, c.part.new.self.rest.now) c.in_ok-part.ensures.read

pub loop-another-preserved : goal.loop-another-preserved
loop-another-preserved c =
    let less : length c.part.new.self.rest.now < length c.loop-another.list.rest.now = part_shrinks c.loop-another.list.rest.now (piece_of c.in_ok-part.part.first c.in_ok-part.part.second c.in_ok-part.part.inside.rest.now, c.part.new.self.rest.now) c.in_ok-part.ensures.read in
    let at = subst (λ (b : Bool). PartsFound 3 transform_of (λ (ts : List Transform). length ts) c.loop-another.count b c.loop-another.list.rest.now (marked_of 3 transform_of (length c.args.list.rest.now) true c.args.list.rest.now)) c.loop-another-test.true c.loop-another.invariant.0 in (
      parts_pass 3 transform_of (λ (ts : List Transform). length ts) c.loop-another.count (c.loop-another.count + 1) c.loop-another.list.rest.now (marked_of 3 transform_of (length c.args.list.rest.now) true c.args.list.rest.now) (piece_of c.in_ok-part.part.first c.in_ok-part.part.second c.in_ok-part.part.inside.rest.now) c.part.new.self.rest.now c.in_ok-another.another c.in_ok-check_transform.ensures.0 less c.in_ok-part.ensures.read c.in_ok-another.ensures.read c.in_ok-check_transform.ensures.1 (counts_next c.loop-another.count c.in_ok-check_transform.ensures.0) at,
      omega (arith, less, c.loop-another.invariant.1),
    )

pub returns-then-is_empty : goal.returns-then-is_empty
returns-then-is_empty c = parts_are_found 3 transform_of (λ (ts : List Transform). length ts) c.loop-another.count c.loop-another.list.rest.now (marked_of 3 transform_of (length c.args.list.rest.now) true c.args.list.rest.now) (sym c.is_empty.ensures ∙ c.if-is_empty.true) (subst (λ (b : Bool). PartsFound 3 transform_of (λ (ts : List Transform). length ts) c.loop-another.count b c.loop-another.list.rest.now (marked_of 3 transform_of (length c.args.list.rest.now) true c.args.list.rest.now)) c.loop-another-test.false c.loop-another.invariant.0)

pub returns-else-is_empty : goal.returns-else-is_empty
returns-else-is_empty c = parts_trail 3 transform_of (λ (ts : List Transform). length ts) c.loop-another.count c.loop-another.list.rest.now (marked_of 3 transform_of (length c.args.list.rest.now) true c.args.list.rest.now) (sym c.is_empty.ensures ∙ c.if-is_empty.false) (subst (λ (b : Bool). PartsFound 3 transform_of (λ (ts : List Transform). length ts) c.loop-another.count b c.loop-another.list.rest.now (marked_of 3 transform_of (length c.args.list.rest.now) true c.args.list.rest.now)) c.loop-another-test.false c.loop-another.invariant.0)
