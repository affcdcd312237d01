use Rattle.std.proofs.Common.{◌+◌, ◌*◌, drop, take, slice_index, ap, arith, ◌∙◌, min}
use Rattle.sha2.specs.Sha256.{hash_after}
use Rattle.lanes.specs.Lane.{lane}
use Rattle.lanes.proofs.AbsorbingLemmas.{next-is}
use Rattle.lanes.proofs.absorbing.common_step.Goals as goal

pub returns : goal.returns
returns c = λ j fits m octets start given has held.
    let index = slice_index c.args.taken.now j + c.args.ahead in
    let here = next-is start octets (lane j c.args.state) _ index m.count (c.requires.common j m given) held
    (c.compress.ensures j fits (take 64 (drop (index * 64) octets)) (c.words_at.ensures j fits m octets given has (c.requires.common j m given))) in
    here ∙ ap (λ n. hash_after start octets (min n m.count)) (omega arith)
