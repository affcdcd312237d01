use Rattle.std.proofs.Common.{◌≡◌, ◌-◌, ◌%◌, ℕ, slice_index, refl, arith}
use Rattle.std.specs.Int.{rotate_right, w32}
use Rattle.lanes.proofs.LaneLemmas.{apart, lanes_are}
use Rattle.lanes.proofs.words.turned.Goals as goal

pub returns : goal.returns
returns c =
    let near : c.args.by % 32 ≡ c.args.by = omega arith in
    let far : (32 - c.args.by) % 32 ≡ 32 - c.args.by = omega arith in
    lanes_are _ (λ (j : ℕ). rotate_right w32 (slice_index c.args.x j) c.args.by) (rw (apart c.args.x c.fits-x.0, near, far) refl)
