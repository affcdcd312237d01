use Rattle.std.proofs.Common.{ℕ, slice_index, refl}
use Rattle.sha2.specs.Sha256.{maj}
use Rattle.lanes.proofs.LaneLemmas.{apart, lanes_are, majority_short}
use Rattle.lanes.proofs.words.maj.Goals as goal

pub returns : goal.returns
returns c = lanes_are _ (λ (j : ℕ). maj (slice_index c.args.x j) (slice_index c.args.y j) (slice_index c.args.z j))
    (rw (
      apart c.args.x c.fits-x.0,
      apart c.args.y c.fits-y.0,
      apart c.args.z c.fits-z.0,
      majority_short (slice_index c.args.x 0) (slice_index c.args.y 0) (slice_index c.args.z 0),
      majority_short (slice_index c.args.x 1) (slice_index c.args.y 1) (slice_index c.args.z 1),
      majority_short (slice_index c.args.x 2) (slice_index c.args.y 2) (slice_index c.args.z 2),
      majority_short (slice_index c.args.x 3) (slice_index c.args.y 3) (slice_index c.args.z 3),
      majority_short (slice_index c.args.x 4) (slice_index c.args.y 4) (slice_index c.args.z 4),
      majority_short (slice_index c.args.x 5) (slice_index c.args.y 5) (slice_index c.args.z 5),
      majority_short (slice_index c.args.x 6) (slice_index c.args.y 6) (slice_index c.args.z 6),
      majority_short (slice_index c.args.x 7) (slice_index c.args.y 7) (slice_index c.args.z 7),
    )
    refl)
