use Rattle.exchange.proofs.FittingLemmas.{notice_fits}
use Rattle.exchange.proofs.laws.notices_fit.Goals as goal

pub returns : goal.returns
returns c = notice_fits
