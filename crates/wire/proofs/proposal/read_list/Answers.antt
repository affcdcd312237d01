use Rattle.std.proofs.Common.{◌<◌, Bool, length, true, subst, sym, ◌∙◌}
use Rattle.std.proofs.lemmas.Result.{err_from_is_err_and}
use Rattle.wire.specs.declared.reader.Part.{Part}
use Rattle.wire.specs.Reading.{marked_of, proposal_of, piece_of}
use Rattle.wire.proofs.Pieces.{part_shrinks}
use Rattle.wire.proofs.Loops.{MarkedSoFar, marked_goes_on, marked_ends, marked_trails, short_exits, astray_exits, item_exits}
use Rattle.wire.proofs.proposal.read_list.Goals as goal

pub returns-in_err-part : goal.returns-in_err-part
returns-in_err-part c =
    let p = err_from_is_err_and c.from_residual.result c.from_residual.ensures.1 in
    rw (p.1, p.2) (short_exits c.in_err-part.field-0.0 (λ (x : Part). piece_of x.first x.second x.inside.rest.now) (λ x. x) 2 proposal_of c.loop-another.proposals c.loop-another.list.rest.now c.part.new.self.rest.now (marked_of 2 proposal_of (length c.args.list.rest.now) true c.args.list.rest.now) c.in_err-part.ensures.read (subst (λ (b : Bool). MarkedSoFar 2 proposal_of c.loop-another.proposals b c.loop-another.list.rest.now (marked_of 2 proposal_of (length c.args.list.rest.now) true c.args.list.rest.now)) c.loop-another-test.true c.loop-another.invariant))

pub returns-in_err-another : goal.returns-in_err-another
returns-in_err-another c =
    let p = err_from_is_err_and c.from_residual-in_err-another.result c.from_residual-in_err-another.ensures.1 in
    rw (p.1, p.2) (astray_exits c.in_err-another.field-0.0 (λ x. x) (λ x. x) 2 proposal_of c.loop-another.proposals c.loop-another.list.rest.now (marked_of 2 proposal_of (length c.args.list.rest.now) true c.args.list.rest.now) (piece_of c.in_ok-part.part.first c.in_ok-part.part.second c.in_ok-part.part.inside.rest.now) c.part.new.self.rest.now c.in_ok-part.ensures.read c.in_err-another.ensures.read (subst (λ (b : Bool). MarkedSoFar 2 proposal_of c.loop-another.proposals b c.loop-another.list.rest.now (marked_of 2 proposal_of (length c.args.list.rest.now) true c.args.list.rest.now)) c.loop-another-test.true c.loop-another.invariant))

pub returns-in_err-read_proposal : goal.returns-in_err-read_proposal
returns-in_err-read_proposal c =
    let p = err_from_is_err_and c.from_residual-in_err-read_proposal.result c.from_residual-in_err-read_proposal.ensures.1 in
    rw (p.1, p.2) (item_exits c.in_err-read_proposal.field-0.0 (λ x. x) (λ x. x) 2 proposal_of c.loop-another.proposals c.loop-another.list.rest.now (marked_of 2 proposal_of (length c.args.list.rest.now) true c.args.list.rest.now) (piece_of c.in_ok-part.part.first c.in_ok-part.part.second c.in_ok-part.part.inside.rest.now) c.part.new.self.rest.now c.in_ok-another.another c.in_ok-part.ensures.read c.in_ok-another.ensures.read c.in_err-read_proposal.ensures (subst (λ (b : Bool). MarkedSoFar 2 proposal_of c.loop-another.proposals b c.loop-another.list.rest.now (marked_of 2 proposal_of (length c.args.list.rest.now) true c.args.list.rest.now)) c.loop-another-test.true c.loop-another.invariant))

pub loop-another-smaller : goal.loop-another-smaller
loop-another-smaller c = part_shrinks c.loop-another.list.rest.now ((piece_of c.in_ok-part.part.first c.in_ok-part.part.second c.in_ok-part.part.inside.rest.now), c.part.new.self.rest.now) c.in_ok-part.ensures.read

pub loop-another-preserved : goal.loop-another-preserved
loop-another-preserved c =
    let less : length c.part.new.self.rest.now < length c.loop-another.list.rest.now = part_shrinks c.loop-another.list.rest.now ((piece_of c.in_ok-part.part.first c.in_ok-part.part.second c.in_ok-part.part.inside.rest.now), c.part.new.self.rest.now) c.in_ok-part.ensures.read in
    rw c.in_ok-push.ensures.ok (marked_goes_on 2 proposal_of c.loop-another.proposals c.loop-another.list.rest.now (marked_of 2 proposal_of (length c.args.list.rest.now) true c.args.list.rest.now) (piece_of c.in_ok-part.part.first c.in_ok-part.part.second c.in_ok-part.part.inside.rest.now) c.part.new.self.rest.now c.in_ok-another.another c.in_ok-read_proposal.field-0 less c.in_ok-part.ensures.read c.in_ok-another.ensures.read c.in_ok-read_proposal.ensures (subst (λ (b : Bool). MarkedSoFar 2 proposal_of c.loop-another.proposals b c.loop-another.list.rest.now (marked_of 2 proposal_of (length c.args.list.rest.now) true c.args.list.rest.now)) c.loop-another-test.true c.loop-another.invariant))

pub returns-then-is_empty : goal.returns-then-is_empty
returns-then-is_empty c = marked_ends 2 proposal_of c.loop-another.proposals c.loop-another.list.rest.now (marked_of 2 proposal_of (length c.args.list.rest.now) true c.args.list.rest.now) (sym c.is_empty.ensures ∙ c.if-is_empty.true) (subst (λ (b : Bool). MarkedSoFar 2 proposal_of c.loop-another.proposals b c.loop-another.list.rest.now (marked_of 2 proposal_of (length c.args.list.rest.now) true c.args.list.rest.now)) c.loop-another-test.false c.loop-another.invariant)

pub returns-else-is_empty : goal.returns-else-is_empty
returns-else-is_empty c = marked_trails 2 proposal_of c.loop-another.proposals c.loop-another.list.rest.now (marked_of 2 proposal_of (length c.args.list.rest.now) true c.args.list.rest.now) (sym c.is_empty.ensures ∙ c.if-is_empty.false) (subst (λ (b : Bool). MarkedSoFar 2 proposal_of c.loop-another.proposals b c.loop-another.list.rest.now (marked_of 2 proposal_of (length c.args.list.rest.now) true c.args.list.rest.now)) c.loop-another-test.false c.loop-another.invariant)
