use Rattle.exchange.specs.Counting.{only_auth, only_id_i, only_id_r}
use Rattle.auth.proofs.LawLemmas.{peer_proves}
use Rattle.auth.proofs.laws.who_is_accepted_proved_itself.Goals as goal

pub returns-clause-request : goal.returns-clause-request
returns-clause-request c = λ accepts peer what payloads asked is. peer_proves accepts peer what (only_id_i payloads) (only_auth payloads) is.proved

pub returns-clause-answer : goal.returns-clause-answer
returns-clause-answer c = λ accepts peer what payloads is. peer_proves accepts peer what (only_id_r payloads) (only_auth payloads) is
