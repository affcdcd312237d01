use Rattle.std.proofs.Common.{◌+◌, ◌*◌, drop, take, slice_index, ap, arith, ◌∙◌, min}
use Rattle.sha2.specs.Sha256.{hash_after}
use Rattle.lanes.specs.Lane.{lane}
use Rattle.lanes.proofs.AbsorbingLemmas.{step-is}
use Rattle.lanes.proofs.absorbing.step.Goals as goal

pub returns : goal.returns
returns c = λ j fits m octets start given has held.
    let index = slice_index c.args.taken.now j + c.args.ahead in
    let here = step-is start octets (lane j c.args.state) _ _ _ index m.count held
    (λ below. c.compress-next.ensures j fits (take 64 (drop (index * 64) octets)) (c.words_at.ensures j fits m octets given has below))
    (c.live.ensures j fits m given) (c.choose_state.ensures j fits) in
    here ∙ ap (λ n. hash_after start octets (min n m.count)) (omega arith)
