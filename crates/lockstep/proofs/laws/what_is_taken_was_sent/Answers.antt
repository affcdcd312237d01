use Rattle.lockstep.proofs.PromiseLemmas.{held_soundly}
use Rattle.lockstep.proofs.laws.what_is_taken_was_sent.Goals as goal

pub returns-clause-in_effect : goal.returns-clause-in_effect
returns-clause-in_effect c = λ e l others n sound is has. (held_soundly e.ledger l e.sent others is sound.holds).peers.in_effect n has

pub returns-clause-answered : goal.returns-clause-answered
returns-clause-answered c = λ e l others n sound is has. (held_soundly e.ledger l e.sent others is sound.holds).peers.answered n has
