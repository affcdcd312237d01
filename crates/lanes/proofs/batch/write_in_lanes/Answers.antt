use Rattle.std.proofs.Common.{length, take, max, arith, length-take}
use Rattle.lanes.proofs.BatchLemmas.{queue_written, shared_even, shared_passed, shared_queued}
use Rattle.lanes.proofs.batch.write_in_lanes.Goals.{then-start-at+then-are_even, then-start-at+else-are_even, else-start-at}
use Rattle.lanes.proofs.batch.write_in_lanes.Goals as goal

pub loop-at-preserved : goal.loop-at-preserved
loop-at-preserved c =
    let tasks = c.args.tasks.now in
    let places = c.args.places.now in
    let now = c.loop-at in
    elim c.if-start-at.branch [
      | then-start-at+then-are_even w ↦ rw (w.values-is, w.queue-is, w.queued-is, w.start-is)
          (shared_even tasks places w.next_eight-eight.result c.args.values.now now.values w.write_eight.new.values now.queue now.queued now.at now.start
          now.invariant w.if-start-at.true w.write_eight.ensures w.next_eight-eight.ensures.next)
      | then-start-at+else-are_even w ↦ rw (w.values-is, w.queue-is, w.queued-is, w.start-is)
          (shared_queued tasks places c.args.values.now now.values now.queue now.queued now.at now.start
          now.invariant w.if-start-at.true (omega arith) c.requires.as_few (c.requires.fit now.at (omega arith)))
      | else-start-at w ↦ rw (w.values-is, w.queue-is, w.queued-is, w.start-is)
          (shared_passed tasks places c.args.values.now now.values now.queue now.queued now.at now.start now.invariant (omega arith))
    ]

pub returns : goal.returns
returns c =
    let now = c.loop-at in
    let shared = now.invariant in
    let front = length-take now.queued now.queue in
    let few = shared.few in
    let long = shared.long in
    queue_written c.args.tasks.now c.args.places.now now.queue c.args.values.now now.values c.write_uneven.new.values (max now.at now.start) now.queued (length (take now.queued now.queue))
    shared.are shared.kept (omega arith) (omega arith) c.write_uneven.ensures
