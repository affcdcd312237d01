use Rattle.effects.proofs.MoveLemmas.{kept_again, waiting_again}
use Rattle.effects.proofs.laws.moves.what_goes_out_again_is_kept.Goals as goal

pub returns-clause-reply : goal.returns-clause-reply
returns-clause-reply c = kept_again c.repeats_say_why.ensures

pub returns-clause-request : goal.returns-clause-request
returns-clause-request c = waiting_again
