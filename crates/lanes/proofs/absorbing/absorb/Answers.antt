use Rattle.std.proofs.Common.{◌≡◌, ◌+◌, ◌-◌, [], ◌∷◌, slice_index, min, ap, ◌∙◌, arith, refl}
use Rattle.sha2.specs.Sha256.{hash_after}
use Rattle.lanes.specs.Lane.{lane}
use Rattle.lanes.proofs.LaneLemmas.{same_at}
use Rattle.lanes.proofs.absorbing.absorb.Goals as goal

pub loop-index-init : goal.loop-index-init
unfolding hash_after
loop-index-init c = λ j fits m octets given has. let none : min 0 m.count ≡ 0 = omega arith in rw none refl

pub returns : goal.returns
returns c = λ j fits m octets given has.
    let w = c.least_whole-whole.result in
    let n = c.max-common.result in
    let wholes = w ∷ w ∷ w ∷ w ∷ w ∷ w ∷ w ∷ w ∷ [] in
    let commons = n ∷ n ∷ n ∷ n ∷ n ∷ n ∷ n ∷ n ∷ [] in
    let w_at : slice_index wholes j ≡ w = same_at w j fits in
    let n_at : slice_index commons j ≡ n = same_at n j fits in
    let first : min c.loop-index.index m.count ≡ min (slice_index wholes j + 0) m.count = omega arith in
    let second : min (slice_index wholes j + (n - w)) m.count ≡ min (slice_index commons j) m.count = omega (arith, c.max-common.ensures) in
    let after = hash_after (lane j c.args.start) octets in
    c.absorb_rest.ensures j fits m octets (lane j c.args.start) given has
    (c.absorb_common-all.ensures j fits m octets (lane j c.args.start) given has (c.loop-index.invariant j fits m octets given has ∙ ap after first) ∙ ap after second)
