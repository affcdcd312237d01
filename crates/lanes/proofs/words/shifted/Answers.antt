use Rattle.std.proofs.Common.{ℕ, ◌/◌, ◌^◌, slice_index, refl}
use Rattle.lanes.proofs.LaneLemmas.{apart, lanes_are}
use Rattle.lanes.proofs.words.shifted.Goals as goal

pub returns : goal.returns
returns c = lanes_are _ (λ (j : ℕ). slice_index c.args.x j / 2 ^ c.args.by) (rw (apart c.args.x c.fits-x.0) refl)
