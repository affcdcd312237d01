use Rattle.std.proofs.Common.{length, arith, refl}
use Rattle.lanes.proofs.BatchLemmas.{batch_right, within_taken}
use Rattle.lanes.proofs.batch.write_batch.Goals as goal

pub write_in_lanes-requires-clause-fit : goal.write_in_lanes-requires-clause-fit
write_in_lanes-requires-clause-fit c = λ k below.
    c.fit_lanes.ensures c.if-fit_lanes.true _ (within_taken (length c.args.tasks.now) c.places_by_blocks-places.result c.places_by_blocks-places.ensures k below)

pub write_one_by_one-requires-clause-within : goal.write_one_by_one-requires-clause-within
write_one_by_one-requires-clause-within c = within_taken (length c.args.tasks.now) c.places_by_blocks-places.result c.places_by_blocks-places.ensures

pub returns-then-fit_lanes : goal.returns-then-fit_lanes
returns-then-fit_lanes c = batch_right c.args.tasks.now c.args.values.now c.write_in_lanes.new.values c.places_by_blocks-places.result _ c.places_by_blocks-places.ensures (omega arith) refl c.write_in_lanes.ensures

pub returns-else-fit_lanes : goal.returns-else-fit_lanes
returns-else-fit_lanes c = batch_right c.args.tasks.now c.args.values.now c.write_one_by_one.new.values c.places_by_blocks-places.result _ c.places_by_blocks-places.ensures (omega arith) refl c.write_one_by_one.ensures
