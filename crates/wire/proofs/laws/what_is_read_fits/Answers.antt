use Rattle.wire.proofs.FittingLemmas.{chain_fits}
use Rattle.wire.proofs.laws.what_is_read_fits.Goals as goal

pub returns : goal.returns
returns c = chain_fits
