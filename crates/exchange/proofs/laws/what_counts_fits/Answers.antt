use Rattle.exchange.proofs.FittingLemmas.{only_sa_fits, only_ts_i_fits, only_ts_r_fits}
use Rattle.exchange.proofs.laws.what_counts_fits.Goals as goal

pub returns-clause-sa : goal.returns-clause-sa
returns-clause-sa c = only_sa_fits

pub returns-clause-ts_i : goal.returns-clause-ts_i
returns-clause-ts_i c = only_ts_i_fits

pub returns-clause-ts_r : goal.returns-clause-ts_r
returns-clause-ts_r c = only_ts_r_fits
