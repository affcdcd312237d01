use Rattle.auth.proofs.LawLemmas.{judged_once}
use Rattle.auth.proofs.laws.judgements_are_determined.Goals as goal

pub returns : goal.returns
returns c = λ accepts peer what payloads one other is too. judged_once accepts peer what payloads one other is too
