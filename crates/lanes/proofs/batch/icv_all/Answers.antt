use Rattle.std.proofs.Common.{◌≡◌, ◌+◌, ◌*◌, ◌-◌, length, min, map, ap, ◌∙◌, sym, refl, arith}
use Rattle.std.proofs.lemmas.List.{take_all}
use Rattle.lanes.specs.Task.{icv_of}
use Rattle.lanes.proofs.BatchLemmas.{batch_written}
use Rattle.lanes.proofs.batch.icv_all.Goals as goal

pub loop-batch-init : goal.loop-batch-init
loop-batch-init c = let none : min (64 * 0) (length c.args.tasks.now) ≡ 0 = omega arith in rw none refl

pub loop-batch-preserved : goal.loop-batch-preserved
loop-batch-preserved c =
    let tasks = c.args.tasks.now in
    let start = 64 * c.loop-batch.batch in
    let size = start + c.min.result - start in
    let before : min start (length tasks) ≡ start = omega arith in
    let after : min (64 * (c.loop-batch.batch + 1)) (length tasks) ≡ start + size = omega arith in
    rw after (batch_written tasks c.loop-batch.values c.write_batch.new.values start size (omega arith) (omega arith)
    (rw before at c.loop-batch.invariant) c.write_batch.ensures)

pub returns : goal.returns
returns c =
    let n = length c.args.tasks.now in
    let all : min (64 * c.loop-batch.batch) n ≡ n = omega arith in
    sym (take_all n c.loop-batch.values (omega arith)) ∙ (rw all at c.loop-batch.invariant) ∙ ap (λ l. map icv_of l) (take_all n c.args.tasks.now (omega arith))
