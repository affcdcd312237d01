use Rattle.laws_coming_up.proofs.BesideLemmas.{is_half_open, is_waiting}
use Rattle.laws_coming_up.proofs.laws.ike_sa_init_leaves_both_waiting.Goals as goal

pub returns-clause-half_open : goal.returns-clause-half_open
returns-clause-half_open g c = is_half_open

pub returns-clause-waits : goal.returns-clause-waits
returns-clause-waits g c = is_waiting
