use Rattle.std.proofs.Common.{◌<◌, Bool, length, true, subst, sym, ◌∙◌, arith}
use Rattle.std.proofs.lemmas.Result.{err_from_is_err_and}
use Rattle.wire.specs.declared.reader.Part.{Part}
use Rattle.wire.specs.Reading.{last_number, marked_of, numbers_of, piece_of, proposal_of}
use Rattle.wire.proofs.Pieces.{part_shrinks}
use Rattle.wire.proofs.Passing.{PartsFound, no_item, no_mark, parts_are_found, parts_astray, parts_begin, parts_pass, parts_short, parts_stop, parts_trail}
use Rattle.wire.proofs.checking.list_numbers.Goals as goal

pub returns-in_err-part : goal.returns-in_err-part
returns-in_err-part c =
    let p = err_from_is_err_and c.from_residual.result c.from_residual.ensures.1 in
    let at = subst (λ (b : Bool). PartsFound 2 proposal_of numbers_of c.loop-another.numbers b c.loop-another.list.rest.now (marked_of 2 proposal_of (length c.args.list.rest.now) true c.args.list.rest.now)) c.loop-another-test.true c.loop-another.invariant.0 in
    rw (p.1) (parts_short 2 proposal_of numbers_of c.loop-another.numbers c.loop-another.list.rest.now (marked_of 2 proposal_of (length c.args.list.rest.now) true c.args.list.rest.now) (no_item c.in_err-part.field-0.0 (λ (x : Part). piece_of x.first x.second x.inside.rest.now) c.part.new.self.rest.now _ c.in_err-part.ensures.free c.in_err-part.ensures.read) at)

pub returns-in_err-another : goal.returns-in_err-another
returns-in_err-another c =
    let p = err_from_is_err_and c.from_residual-in_err-another.result c.from_residual-in_err-another.ensures.1 in
    let at = subst (λ (b : Bool). PartsFound 2 proposal_of numbers_of c.loop-another.numbers b c.loop-another.list.rest.now (marked_of 2 proposal_of (length c.args.list.rest.now) true c.args.list.rest.now)) c.loop-another-test.true c.loop-another.invariant.0 in
    rw (p.1) (parts_astray 2 proposal_of numbers_of c.loop-another.numbers c.loop-another.list.rest.now (marked_of 2 proposal_of (length c.args.list.rest.now) true c.args.list.rest.now) (piece_of c.in_ok-part.part.first c.in_ok-part.part.second c.in_ok-part.part.inside.rest.now) c.part.new.self.rest.now c.in_ok-part.ensures.read (no_mark c.in_err-another.field-0.0 2 c.in_ok-part.part.first c.in_err-another.ensures.free c.in_err-another.ensures.read) at)

pub returns-in_err-number : goal.returns-in_err-number
returns-in_err-number c =
    let p = err_from_is_err_and c.from_residual-in_err-number.result c.from_residual-in_err-number.ensures.1 in
    let at = subst (λ (b : Bool). PartsFound 2 proposal_of numbers_of c.loop-another.numbers b c.loop-another.list.rest.now (marked_of 2 proposal_of (length c.args.list.rest.now) true c.args.list.rest.now)) c.loop-another-test.true c.loop-another.invariant.0 in
    rw (p.1) (parts_stop 2 proposal_of numbers_of c.loop-another.numbers c.loop-another.list.rest.now (marked_of 2 proposal_of (length c.args.list.rest.now) true c.args.list.rest.now) (piece_of c.in_ok-part.part.first c.in_ok-part.part.second c.in_ok-part.part.inside.rest.now) c.part.new.self.rest.now c.in_ok-another.another c.in_ok-part.ensures.read c.in_ok-another.ensures.read c.in_err-number.ensures at)

pub loop-another-init : goal.loop-another-init
unfolding last_number
loop-another-init c = (parts_begin 2 proposal_of numbers_of c.args.list.rest.now, omega arith)

pub loop-another-smaller : goal.loop-another-smaller
loop-another-smaller c = part_shrinks c.loop-another.list.rest.now (piece_of c.in_ok-part.part.first c.in_ok-part.part.second c.in_ok-part.part.inside.rest.now, c.part.new.self.rest.now) c.in_ok-part.ensures.read

pub loop-another-preserved : goal.loop-another-preserved
loop-another-preserved c =
    let less : length c.part.new.self.rest.now < length c.loop-another.list.rest.now = part_shrinks c.loop-another.list.rest.now (piece_of c.in_ok-part.part.first c.in_ok-part.part.second c.in_ok-part.part.inside.rest.now, c.part.new.self.rest.now) c.in_ok-part.ensures.read in
    let at = subst (λ (b : Bool). PartsFound 2 proposal_of numbers_of c.loop-another.numbers b c.loop-another.list.rest.now (marked_of 2 proposal_of (length c.args.list.rest.now) true c.args.list.rest.now)) c.loop-another-test.true c.loop-another.invariant.0 in (
      parts_pass 2 proposal_of numbers_of c.loop-another.numbers c.with_number-numbers.result c.loop-another.list.rest.now (marked_of 2 proposal_of (length c.args.list.rest.now) true c.args.list.rest.now) (piece_of c.in_ok-part.part.first c.in_ok-part.part.second c.in_ok-part.part.inside.rest.now) c.part.new.self.rest.now c.in_ok-another.another c.in_ok-number.ensures.0 less c.in_ok-part.ensures.read c.in_ok-another.ensures.read c.in_ok-number.ensures.1 (λ before e. c.with_number-numbers.ensures.sees before c.in_ok-number.ensures.0 e c.in_ok-number.ensures.2) at,
      omega (arith, less, c.loop-another.invariant.1, c.with_number-numbers.ensures.more),
    )

pub returns-then-is_empty : goal.returns-then-is_empty
returns-then-is_empty c = parts_are_found 2 proposal_of numbers_of c.loop-another.numbers c.loop-another.list.rest.now (marked_of 2 proposal_of (length c.args.list.rest.now) true c.args.list.rest.now) (sym c.is_empty.ensures ∙ c.if-is_empty.true) (subst (λ (b : Bool). PartsFound 2 proposal_of numbers_of c.loop-another.numbers b c.loop-another.list.rest.now (marked_of 2 proposal_of (length c.args.list.rest.now) true c.args.list.rest.now)) c.loop-another-test.false c.loop-another.invariant.0)

pub returns-else-is_empty : goal.returns-else-is_empty
returns-else-is_empty c = parts_trail 2 proposal_of numbers_of c.loop-another.numbers c.loop-another.list.rest.now (marked_of 2 proposal_of (length c.args.list.rest.now) true c.args.list.rest.now) (sym c.is_empty.ensures ∙ c.if-is_empty.false) (subst (λ (b : Bool). PartsFound 2 proposal_of numbers_of c.loop-another.numbers b c.loop-another.list.rest.now (marked_of 2 proposal_of (length c.args.list.rest.now) true c.args.list.rest.now)) c.loop-another-test.false c.loop-another.invariant.0)
