use Rattle.std.proofs.Common.{◌≡◌, ℕ, length, Some, subst, ◌∙◌, arith}
use Rattle.std.proofs.lemmas.Result.{err_from_is_err_and}
use Rattle.wire.specs.Proposals.{SpellsProposal}
use Rattle.wire.specs.Parts.{IsZero}
use Rattle.wire.specs.Writing.{Fails, close_onto, marked_from, proposal_onto}
use Rattle.wire.proofs.WrittenBodies.{proposal_appends}
use Rattle.wire.proofs.WritingLoops.{marked_next, marked_stops, marked_shuts, marked_done, part_room}
use Rattle.wire.proofs.proposal.write_list.Goals as goal

pub returns-in_err-write_proposal : goal.returns-in_err-write_proposal
returns-in_err-write_proposal c =
    let p = err_from_is_err_and c.from_residual-in_err-write_proposal.result c.from_residual-in_err-write_proposal.ensures.1 in
    rw (p.1, p.2) (marked_stops 2 proposal_onto c.in_err-write_proposal.field-0.0 c.args.proposals.now c.loop-place.place c.index-proposals-place.result c.mark_at-mark.result c.loop-place.out.items c.open_part.new.out.items (marked_from 2 proposal_onto c.args.proposals.now c.args.out.now.items) c.loop-place-test.true c.index-proposals-place.is c.mark_at-mark.ensures c.loop-place.invariant c.in_ok-open_part.ensures c.in_err-write_proposal.ensures)

pub close_part-requires : goal.close_part-requires
close_part-requires c =
    let at : c.len-start.result ≡ length c.loop-place.out.items = c.len-start.ensures ∙ c.loop-place.out.ok.0 in
    let room = part_room c.mark_at-mark.result 0 (proposal_onto c.index-proposals-place.result) (SpellsProposal IsZero c.index-proposals-place.result) c.loop-place.out.items c.open_part.new.out.items c.write_proposal.new.out.items (proposal_appends c.index-proposals-place.result) c.in_ok-open_part.ensures c.in_ok-write_proposal.ensures in
    omega (arith, room, at)

pub returns-in_err-close_part : goal.returns-in_err-close_part
returns-in_err-close_part c =
    let p = err_from_is_err_and c.from_residual-in_err-close_part.result c.from_residual-in_err-close_part.ensures.1 in
    let at : c.len-start.result ≡ length c.loop-place.out.items = c.len-start.ensures ∙ c.loop-place.out.ok.0 in
    let failed = subst (λ (n : ℕ). Fails c.in_err-close_part.field-0.0 (close_onto n c.write_proposal.new.out.items)) at c.in_err-close_part.ensures in
    rw (p.1, p.2) (marked_shuts 2 proposal_onto c.in_err-close_part.field-0.0 c.args.proposals.now c.loop-place.place c.index-proposals-place.result c.mark_at-mark.result c.loop-place.out.items c.open_part.new.out.items c.write_proposal.new.out.items (marked_from 2 proposal_onto c.args.proposals.now c.args.out.now.items) c.loop-place-test.true c.index-proposals-place.is c.mark_at-mark.ensures c.loop-place.invariant c.in_ok-open_part.ensures c.in_ok-write_proposal.ensures failed)

pub loop-place-preserved : goal.loop-place-preserved
loop-place-preserved c =
    let at : c.len-start.result ≡ length c.loop-place.out.items = c.len-start.ensures ∙ c.loop-place.out.ok.0 in
    let closed = subst (λ (n : ℕ). close_onto n c.write_proposal.new.out.items ≡ Some c.close_part.new.out.items) at c.in_ok-close_part.ensures in
    marked_next 2 proposal_onto c.args.proposals.now c.loop-place.place c.index-proposals-place.result c.mark_at-mark.result c.loop-place.out.items c.open_part.new.out.items c.write_proposal.new.out.items c.close_part.new.out.items (marked_from 2 proposal_onto c.args.proposals.now c.args.out.now.items) c.loop-place-test.true c.index-proposals-place.is c.mark_at-mark.ensures c.loop-place.invariant c.in_ok-open_part.ensures c.in_ok-write_proposal.ensures closed

pub returns : goal.returns
returns c = marked_done 2 proposal_onto c.args.proposals.now c.loop-place.place c.loop-place.out.items (marked_from 2 proposal_onto c.args.proposals.now c.args.out.now.items) c.loop-place-test.false c.loop-place.invariant
