use Rattle.std.proofs.Common.{rules, ◌≡◌, ◌∙◌, sym, ap, ℕ, [], ◌∷◌, ◌+◌, ◌-◌, ◌≤◌, List, length, drop, arith, length-drop}
use Rattle.std.proofs.lemmas.List.{drop_more, length-take-le}
use Rattle.esp.specs.Laying.{covered_sizes}
use Rattle.esp.proofs.LayingLemmas.{fits_at, sizes_more, room_more, value_written}
use Rattle.esp.proofs.check_values.write_all.Goals as goal

pub covered_size-requires : goal.covered_size-requires
covered_size-requires c = fits_at c.args.payloads.now c.loop-place.place _ c.requires.fit c.loop-place-test.true

pub overflow_add-end : goal.overflow_add-end
overflow_add-end c =
    let room = room_more c.args.payloads.now c.loop-place.place c.loop-place.start c.covered_size.result (length c.loop-place.packets) (record { ref_ptr = (0, 0); now = [] }) c.loop-place-test.true c.covered_size.ensures c.loop-place.invariant.room in
    search rules

pub overflow_add-end-in-loop-place : goal.overflow_add-end-in-loop-place
overflow_add-end-in-loop-place c =
    let room = room_more c.args.payloads.now c.loop-place.place c.loop-place.start c.covered_size.result (length c.loop-place.packets) (record { ref_ptr = (0, 0); now = [] }) c.loop-place-test.true c.covered_size.ensures c.loop-place.invariant.room in
    search rules

pub slice_bounds-copy_from_slice-end : goal.slice_bounds-copy_from_slice-end
slice_bounds-copy_from_slice-end c =
    let room = room_more c.args.payloads.now c.loop-place.place c.loop-place.start c.covered_size.result (length c.loop-place.packets) (record { ref_ptr = (0, 0); now = [] }) c.loop-place-test.true c.covered_size.ensures c.loop-place.invariant.room in
    let ends : c.loop-place.start + c.covered_size.result + 16 ≤ length c.loop-place.packets = omega arith in
    search rules

pub loop-place-preserved : goal.loop-place-preserved
loop-place-preserved c =
    let i = c.loop-place.invariant in
    let j = c.loop-place.place in
    let size = c.covered_size.result in
    let start = c.loop-place.start in
    let packets = c.loop-place.packets in
    let v = c.copy_from_slice.new.self in
    let room = room_more c.args.payloads.now j start size (length packets) (record { ref_ptr = (0, 0); now = [] }) c.loop-place-test.true c.covered_size.ensures i.room in
    let here : drop j (covered_sizes c.args.payloads.now) ≡ size ∷ drop (j + 1) (covered_sizes c.args.payloads.now) =
    sizes_more c.args.payloads.now j (record { ref_ptr = (0, 0); now = [] }) c.loop-place-test.true
    ∙ ap (λ (s : ℕ). s ∷ drop (j + 1) (covered_sizes c.args.payloads.now)) (sym c.covered_size.ensures)
    in
    let value : drop j c.args.values.now ≡ v ∷ drop (j + 1) c.args.values.now =
    drop_more c.args.values.now j _ (omega arith) ∙ ap (λ (x : List ℕ). x ∷ drop (j + 1) c.args.values.now) (sym c.copy_from_slice.ensures.after)
    in
    let sixteen : start + size + 16 - (start + size) ≡ 16 = omega arith in
    let long : length v ≡ 16 =
    c.copy_from_slice.ensures.len
    ∙ length-take-le (start + size + 16 - (start + size)) (drop (start + size) packets) (omega (arith, length-drop (start + size) packets))
    ∙ sixteen
    in
    record {
      written = value_written j start size (start + size + 16 - (start + size)) (covered_sizes c.args.payloads.now) c.args.values.now v packets _ sixteen here value long (omega arith) i.written;
      room = omega (arith, c.loop-place.auto.packets, room, long, length-drop (start + size) packets);
    }
