use Rattle.auth.proofs.LawLemmas.{read_again, read_in_answer, window_bounds}
use Rattle.auth.proofs.laws.windows_are_read_again.Goals as goal

pub returns-clause-told : goal.returns-clause-told
returns-clause-told c = λ window is. read_again window is

pub returns-clause-answer : goal.returns-clause-answer
returns-clause-answer c = λ own_method proof_of own what answer window is. read_in_answer own_method proof_of own what answer window is

pub returns-clause-bounds : goal.returns-clause-bounds
returns-clause-bounds c = λ payloads. window_bounds payloads
