use Rattle.std.proofs.Common.{rules, ◌≡◌, ◌+◌, ◌≤◌, ◌∙◌, length, get_or, refl, sym, ap, arith}
use Rattle.gateway.specs.Rows.{packet_in_row}
use Rattle.gateway.specs.declared.row.Span.{Span}
use Rattle.gateway.proofs.RowLemmas.{octets_next, part_fits, part_now, row_done, row_next, value_in_row}
use Rattle.gateway.proofs.row.finish_each.Goals as goal

abbrev none : Span
none = record { child = 0; number = 0; length = 0 }

pub loop-place-init : goal.loop-place-init
loop-place-init c = record { done = refl; at_is = refl }

pub overflow_add-end : goal.overflow_add-end
overflow_add-end c =
    let at_is = c.loop-place.invariant.at_is in
    let fits = part_fits c.args.spans.now c.loop-place.place none c.loop-place-test.true in
    let whole = c.requires.whole in
    let within : c.loop-place.at + (get_or c.args.spans.now c.loop-place.place none).length ≤ length c.args.packets.now = omega arith in
    search rules

pub slice_bounds-finish-end : goal.slice_bounds-finish-end
slice_bounds-finish-end c =
    let at_is = c.loop-place.invariant.at_is in
    let fits = part_fits c.args.spans.now c.loop-place.place none c.loop-place-test.true in
    let whole = c.requires.whole in
    let same = c.loop-place.auto.packets in
    let ends : c.loop-place.at + (get_or c.args.spans.now c.loop-place.place none).length ≤ length c.loop-place.packets = omega arith in
    let begins : c.loop-place.at ≤ c.loop-place.at + (get_or c.args.spans.now c.loop-place.place none).length = omega arith in
    search rules

pub finish-requires : goal.finish-requires
finish-requires c =
    let i = c.loop-place.invariant in
    let spans = c.args.spans.now in
    let here = part_now c.args.table.now.pairs spans c.args.packets.now c.loop-place.packets c.loop-place.place none c.loop-place.at c.loop-place-test.true i.at_is c.requires.whole c.loop-place.auto.packets i.done in
    value_in_row (packet_in_row spans c.args.packets.now) c.args.ahead.now c.loop-place.place c.value_at.result _ c.requires.ahead here c.value_at.ensures

pub loop-place-preserved : goal.loop-place-preserved
loop-place-preserved c =
    let i = c.loop-place.invariant in
    let spans = c.args.spans.now in
    let place = c.loop-place.place in
    let there = c.loop-place-test.true in
    record {
      done = row_next c.args.table.now.pairs spans c.args.packets.now c.loop-place.packets c.finish.new.packet place none c.loop-place.at there i.at_is c.requires.whole c.loop-place.auto.packets i.done c.finish.ensures;
      at_is = ap (λ n. n + (get_or spans place none).length) i.at_is ∙ sym (octets_next spans place none there);
    }

pub returns : goal.returns
returns c =
    let i = c.loop-place.invariant in
    let count : c.loop-place.place ≡ length c.args.spans.now = omega arith in
    row_done c.args.table.now.pairs c.args.spans.now c.args.packets.now c.loop-place.packets c.loop-place.at c.loop-place.place count i.at_is c.requires.whole i.done
