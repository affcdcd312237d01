use Rattle.std.proofs.Common.{◌≡◌, ℕ, length, Some, subst, ◌∙◌, arith}
use Rattle.std.proofs.lemmas.Result.{err_from_is_err_and}
use Rattle.wire.specs.Proposals.{SpellsTransform}
use Rattle.wire.specs.Parts.{IsZero}
use Rattle.wire.specs.Writing.{Fails, close_onto, marked_from, transform_onto}
use Rattle.wire.proofs.WrittenBodies.{transform_appends}
use Rattle.wire.proofs.WritingLoops.{marked_next, marked_stops, marked_shuts, marked_done, part_room}
use Rattle.wire.proofs.proposal.write_transforms.Goals as goal

pub returns-in_err-write_transform : goal.returns-in_err-write_transform
returns-in_err-write_transform c =
    let p = err_from_is_err_and c.from_residual-in_err-write_transform.result c.from_residual-in_err-write_transform.ensures.1 in
    rw (p.1, p.2) (marked_stops 3 transform_onto c.in_err-write_transform.field-0.0 c.args.transforms.now c.loop-place.place c.index-transforms-place.result c.mark_at-mark.result c.loop-place.out.items c.open_part.new.out.items (marked_from 3 transform_onto c.args.transforms.now c.args.out.now.items) c.loop-place-test.true c.index-transforms-place.is c.mark_at-mark.ensures c.loop-place.invariant c.in_ok-open_part.ensures c.in_err-write_transform.ensures)

pub close_part-requires : goal.close_part-requires
close_part-requires c =
    let at : c.len-start.result ≡ length c.loop-place.out.items = c.len-start.ensures ∙ c.loop-place.out.ok.0 in
    let room = part_room c.mark_at-mark.result 0 (transform_onto c.index-transforms-place.result) (SpellsTransform IsZero c.index-transforms-place.result) c.loop-place.out.items c.open_part.new.out.items c.write_transform.new.out.items (transform_appends c.index-transforms-place.result) c.in_ok-open_part.ensures c.in_ok-write_transform.ensures in
    omega (arith, room, at)

pub returns-in_err-close_part : goal.returns-in_err-close_part
returns-in_err-close_part c =
    let p = err_from_is_err_and c.from_residual-in_err-close_part.result c.from_residual-in_err-close_part.ensures.1 in
    let at : c.len-start.result ≡ length c.loop-place.out.items = c.len-start.ensures ∙ c.loop-place.out.ok.0 in
    let failed = subst (λ (n : ℕ). Fails c.in_err-close_part.field-0.0 (close_onto n c.write_transform.new.out.items)) at c.in_err-close_part.ensures in
    rw (p.1, p.2) (marked_shuts 3 transform_onto c.in_err-close_part.field-0.0 c.args.transforms.now c.loop-place.place c.index-transforms-place.result c.mark_at-mark.result c.loop-place.out.items c.open_part.new.out.items c.write_transform.new.out.items (marked_from 3 transform_onto c.args.transforms.now c.args.out.now.items) c.loop-place-test.true c.index-transforms-place.is c.mark_at-mark.ensures c.loop-place.invariant c.in_ok-open_part.ensures c.in_ok-write_transform.ensures failed)

pub loop-place-preserved : goal.loop-place-preserved
loop-place-preserved c =
    let at : c.len-start.result ≡ length c.loop-place.out.items = c.len-start.ensures ∙ c.loop-place.out.ok.0 in
    let closed = subst (λ (n : ℕ). close_onto n c.write_transform.new.out.items ≡ Some c.close_part.new.out.items) at c.in_ok-close_part.ensures in
    marked_next 3 transform_onto c.args.transforms.now c.loop-place.place c.index-transforms-place.result c.mark_at-mark.result c.loop-place.out.items c.open_part.new.out.items c.write_transform.new.out.items c.close_part.new.out.items (marked_from 3 transform_onto c.args.transforms.now c.args.out.now.items) c.loop-place-test.true c.index-transforms-place.is c.mark_at-mark.ensures c.loop-place.invariant c.in_ok-open_part.ensures c.in_ok-write_transform.ensures closed

pub returns : goal.returns
returns c = marked_done 3 transform_onto c.args.transforms.now c.loop-place.place c.loop-place.out.items (marked_from 3 transform_onto c.args.transforms.now c.args.out.now.items) c.loop-place-test.false c.loop-place.invariant
