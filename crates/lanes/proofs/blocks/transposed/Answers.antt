use Rattle.lanes.proofs.BlockLemmas.{transposed_high, transposed_low}
use Rattle.lanes.proofs.blocks.transposed.Goals as goal

pub returns-clause-low : goal.returns-clause-low
returns-clause-low c = transposed_low c.args.a c.args.b c.args.c c.args.d c.fits-a.0 c.fits-b.0 c.fits-c.0 c.fits-d.0

pub returns-clause-high : goal.returns-clause-high
returns-clause-high c = transposed_high c.args.a c.args.b c.args.c c.args.d c.fits-a.0 c.fits-b.0 c.fits-c.0 c.fits-d.0
