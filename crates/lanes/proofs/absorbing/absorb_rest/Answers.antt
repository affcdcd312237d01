use Rattle.std.proofs.Common.{◌≡◌, ◌+◌, min, slice_index, ap, ◌∙◌, arith}
use Rattle.sha2.specs.Sha256.{hash_after}
use Rattle.lanes.proofs.absorbing.absorb_rest.Goals as goal

pub returns : goal.returns
returns c = λ j fits m octets start given has held.
    let none : slice_index c.args.taken.now j ≡ slice_index c.args.taken.now j + 0 = omega arith in
    let most = c.most_left-ahead-end.ensures j fits m given in
    let all : min (slice_index c.args.taken.now j + c.loop-ahead.ahead) m.count ≡ m.count = omega arith in
    c.loop-ahead.invariant j fits m octets start given has (held ∙ ap (λ n. hash_after start octets (min n m.count)) none)
    ∙ ap (hash_after start octets) all
