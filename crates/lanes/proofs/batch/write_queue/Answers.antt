use Rattle.lanes.proofs.BatchLemmas.{few_written}
use Rattle.lanes.proofs.batch.write_queue.Goals as goal

pub returns-then-queue-le8 : goal.returns-then-queue-le8
returns-then-queue-le8 c = few_written c.args.tasks.now c.args.values.now c.write_eight.new.values c.args.queue.now c.next_eight-eight.result c.if-queue-le8.true c.write_eight.ensures c.next_eight-eight.ensures.next
