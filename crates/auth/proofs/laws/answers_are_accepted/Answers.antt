use Rattle.auth.proofs.LawLemmas.{answer_accepted}
use Rattle.auth.proofs.laws.answers_are_accepted.Goals as goal

pub returns : goal.returns
returns c = λ accepts own_method proof_of own what answer window accepted. answer_accepted accepts own_method proof_of own what answer window accepted
