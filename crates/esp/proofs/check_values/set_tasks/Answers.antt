use Rattle.std.proofs.Common.{rules, ◌≡◌, ◌∙◌, sym, ap, ℕ, [], ◌∷◌, ◌+◌, ◌-◌, ◌≤◌, length, take, drop, arith}
use Rattle.std.proofs.lemmas.List.{length-set}
use Rattle.esp.specs.Laying.{covered_sizes}
use Rattle.esp.proofs.LayingLemmas.{fits_at, sizes_more, room_more, task_value, task_more}
use Rattle.esp.proofs.check_values.set_tasks.Goals as goal

pub covered_size-requires : goal.covered_size-requires
covered_size-requires c = fits_at c.args.payloads.now c.loop-place.place _ c.requires.fit c.loop-place-test.true

pub overflow_add-end : goal.overflow_add-end
overflow_add-end c =
    let room = room_more c.args.payloads.now c.loop-place.place c.loop-place.start c.covered_size.result (length c.args.packets.now) (record { ref_ptr = (0, 0); now = [] }) c.loop-place-test.true c.covered_size.ensures c.loop-place.invariant.room in
    search rules

pub slice_bounds-task-end : goal.slice_bounds-task-end
slice_bounds-task-end c =
    let room = room_more c.args.payloads.now c.loop-place.place c.loop-place.start c.covered_size.result (length c.args.packets.now) (record { ref_ptr = (0, 0); now = [] }) c.loop-place-test.true c.covered_size.ensures c.loop-place.invariant.room in
    let ends : c.loop-place.start + c.covered_size.result ≤ length c.args.packets.now = omega arith in
    let begins : c.loop-place.start ≤ c.loop-place.start + c.covered_size.result = omega arith in
    search rules

pub loop-place-preserved : goal.loop-place-preserved
loop-place-preserved c =
    let i = c.loop-place.invariant in
    let j = c.loop-place.place in
    let size = c.covered_size.result in
    let here : drop j (covered_sizes c.args.payloads.now) ≡ size ∷ drop (j + 1) (covered_sizes c.args.payloads.now) =
    sizes_more c.args.payloads.now j (record { ref_ptr = (0, 0); now = [] }) c.loop-place-test.true
    ∙ ap (λ (s : ℕ). s ∷ drop (j + 1) (covered_sizes c.args.payloads.now)) (sym c.covered_size.ensures)
    in
    let part : c.loop-place.start + size - c.loop-place.start ≡ size = omega arith in
    record {
      asked = λ last halves.
          task_more c.args.association.now last j c.loop-place.start size (covered_sizes c.args.payloads.now) c.args.packets.now c.loop-place.tasks _ _ (omega arith) here
          (task_value c.args.association.now last j size c.loop-place.start c.args.packets.now _ _ _ c.task.ensures
          (ap (λ (k : ℕ). take k (drop c.loop-place.start c.args.packets.now)) part) (halves.each j c.loop-place-test.true))
          (i.asked last halves);
      long = length-set c.loop-place.tasks j _ ∙ i.long;
      room = room_more c.args.payloads.now j c.loop-place.start size (length c.args.packets.now) (record { ref_ptr = (0, 0); now = [] }) c.loop-place-test.true c.covered_size.ensures i.room;
    }
