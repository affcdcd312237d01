use Rattle.std.proofs.Common.{◌∙◌, arith}
use Rattle.std.proofs.lemmas.List.{length-set}
use Rattle.esp.proofs.LayingLemmas.{half_more}
use Rattle.esp.proofs.check_values.high_halves.Goals as goal

pub loop-place-preserved : goal.loop-place-preserved
loop-place-preserved g c =
    let i = c.loop-place.invariant in
    record {
      long = length-set c.loop-place.halves c.loop-place.place c.high_half.result ∙ i.long;
      are = half_more c.args.last c.loop-place.place c.loop-place.halves c.high_half.result (omega arith) c.high_half.ensures i.are;
    }
