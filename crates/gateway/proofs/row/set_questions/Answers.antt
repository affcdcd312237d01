use Rattle.std.proofs.Common.{rules, ◌+◌, ◌≤◌, ◌<◌, ◌∙◌, length, get_or, refl, sym, ap, subst, arith}
use Rattle.std.specs.Prelude.{IfSome}
use Rattle.std.proofs.lemmas.List.{length-set}
use Rattle.base.specs.Octets.{Octets}
use Rattle.esp.specs.Precomputed.{IsQuestion}
use Rattle.gateway.specs.Rows.{packet_in_row}
use Rattle.gateway.specs.declared.row.Span.{Span}
use Rattle.gateway.proofs.GroupLemmas.{asked_more}
use Rattle.gateway.proofs.RowLemmas.{octets_next, part_fits, part_here}
use Rattle.gateway.proofs.row.set_questions.Goals as goal

abbrev none : Span
none = record { child = 0; number = 0; length = 0 }

pub loop-place-init : goal.loop-place-init
loop-place-init c = record { questions = λ before. before; long = refl; at_is = refl }

pub overflow_add-end : goal.overflow_add-end
overflow_add-end c =
    let at_is = c.loop-place.invariant.at_is in
    let fits = part_fits c.args.spans.now c.loop-place.place none c.loop-place-test.true in
    let whole = c.requires.whole in
    let within : c.loop-place.at + (get_or c.args.spans.now c.loop-place.place none).length ≤ length c.args.packets.now = omega arith in
    search rules

pub slice_bounds-question-end : goal.slice_bounds-question-end
slice_bounds-question-end c =
    let at_is = c.loop-place.invariant.at_is in
    let fits = part_fits c.args.spans.now c.loop-place.place none c.loop-place-test.true in
    let whole = c.requires.whole in
    let ends : c.loop-place.at + (get_or c.args.spans.now c.loop-place.place none).length ≤ length c.args.packets.now = omega arith in
    let begins : c.loop-place.at ≤ c.loop-place.at + (get_or c.args.spans.now c.loop-place.place none).length = omega arith in
    search rules

pub loop-place-preserved : goal.loop-place-preserved
loop-place-preserved c =
    let i = c.loop-place.invariant in
    let spans = c.args.spans.now in
    let packets = c.args.packets.now in
    let place = c.loop-place.place in
    let there = c.loop-place-test.true in
    let long = i.long in
    let enough = c.requires.room in
    let within : place < length c.loop-place.questions = omega arith in
    let right : IfSome c.question.result (IsQuestion (packet_in_row spans packets place)) =
    subst (λ (b : Octets). IfSome c.question.result (IsQuestion b)) (sym (part_here spans packets place none c.loop-place.at there i.at_is)) c.question.ensures
    in
    record {
      questions = λ before. asked_more (packet_in_row spans packets) c.loop-place.questions place c.question.result within (i.questions before) right;
      long = length-set c.loop-place.questions place c.question.result ∙ i.long;
      at_is = ap (λ n. n + (get_or spans place none).length) i.at_is ∙ sym (octets_next spans place none there);
    }
