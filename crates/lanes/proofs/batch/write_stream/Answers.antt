use Rattle.std.proofs.Common.{arith}
use Rattle.lanes.proofs.BatchLemmas.{eight_written}
use Rattle.lanes.proofs.batch.write_stream.Goals as goal

pub loop-group-preserved : goal.loop-group-preserved
loop-group-preserved c = eight_written c.args.tasks.now c.args.values.now c.loop-group.values c.write_eight.new.values c.args.queue.now c.next_eight-places.result c.loop-group.group
    c.loop-group.invariant c.write_eight.ensures (omega arith) c.next_eight-places.ensures.next
