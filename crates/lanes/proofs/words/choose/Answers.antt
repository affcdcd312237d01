use Rattle.std.proofs.Common.{ℕ, slice_index, nat_eq, if◌then◌else◌, refl, ap, ◌∙◌, replicate, w32}
use Rattle.std.proofs.lemmas.Simd.{tops_compared}
use lib.Lanes.{sel_l}
use Rattle.lanes.proofs.LaneLemmas.{apart, lanes_are}
use Rattle.lanes.proofs.words.choose.Goals as goal

pub returns : goal.returns
returns c = lanes_are _ (λ (j : ℕ). if nat_eq (slice_index c.args.test j) 0 then slice_index c.args.other j else slice_index c.args.word j)
    (ap (λ m. sel_l m c.args.other c.args.word) (tops_compared w32 nat_eq c.args.test (replicate 8 0))
    ∙ rw (apart c.args.test c.fits-test.0, apart c.args.word c.fits-word.0, apart c.args.other c.fits-other.0) refl)
