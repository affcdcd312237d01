use Rattle.esp.proofs.OpeningLemmas.{never_for_memory, never_answered_for_memory}
use Rattle.esp.proofs.laws.a_block_window_wants_no_memory.Goals as goal

pub returns-clause-opened : goal.returns-clause-opened
returns-clause-opened c = λ r s b e refused. never_for_memory r s b e refused

pub returns-clause-answered : goal.returns-clause-answered
returns-clause-answered c = λ r s b x step. never_answered_for_memory r s b x step
