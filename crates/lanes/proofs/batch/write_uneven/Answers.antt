use Rattle.std.proofs.Common.{length, take, drop, subst, arith, length-take, length-drop, List, ℕ}
use Rattle.std.proofs.lemmas.List.{take_rest}
use Rattle.lanes.specs.Task.{AreWritten}
use Rattle.lanes.proofs.BatchLemmas.{both_written}
use Rattle.lanes.proofs.batch.write_uneven.Goals as goal

pub returns-then-alone-queue : goal.returns-then-alone-queue
returns-then-alone-queue c =
    let queue = c.args.queue.now in
    let n = c.count_alone-alone.result in
    let front = length-take n queue in
    let rest = length-drop n queue in
    both_written c.args.tasks.now c.args.values.now c.write_one_by_one.new.values c.write_queue.new.values queue n (length (take n queue)) (length (drop n queue))
    c.count_alone-alone.ensures (omega arith) (omega arith) c.write_one_by_one.ensures
    (subst (λ (l : List ℕ). AreWritten c.args.tasks.now c.write_one_by_one.new.values c.write_queue.new.values l (length l)) (take_rest queue n) c.write_queue.ensures)
