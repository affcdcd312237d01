use Rattle.lanes.proofs.BlockLemmas.{words_are}
use Rattle.lanes.proofs.blocks.words.Goals as goal

pub returns : goal.returns
returns c = words_are c.args.octets c.fits-octets.0 c.fits-octets.1
