use Rattle.auth.proofs.LawLemmas.{request_accepted}
use Rattle.auth.proofs.laws.requests_are_accepted.Goals as goal

pub returns : goal.returns
returns c = λ accepts own_method proof_of own what child window is accepted. request_accepted accepts own_method proof_of own what child window is accepted
