use Rattle.std.proofs.Common.{arith, length, ◌<◌}
use Rattle.std.proofs.lemmas.Grind.{common_steps}
use Rattle.sukperin.proofs.ViewLemmas.{told_more}
use Rattle.sukperin.proofs.views.fill_room.Goals as goal

pub loop-place-preserved : goal.loop-place-preserved
loop-place-preserved c =
    let so_far = c.loop-place.invariant in
    let within : c.loop-place.place < length c.args.held.now = omega arith in
    let there : c.loop-place.place < length c.loop-place.room = omega arith in
    record {
      told =
          told_more c.args.held.now c.loop-place.room c.loop-place.place c.index-held-place.result
          c.association_of.result within there c.index-held-place.is so_far.told c.association_of.ensures;
      behind = grind (arith, common_steps);
      long = grind (arith, common_steps);
    }
