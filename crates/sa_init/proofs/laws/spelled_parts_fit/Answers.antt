use Rattle.sa_init.proofs.PartLemmas.{nonce_is_nonce, numbers_are_numbers}
use Rattle.sa_init.proofs.laws.spelled_parts_fit.Goals as goal

pub returns-clause-nonce : goal.returns-clause-nonce
returns-clause-nonce c = nonce_is_nonce

pub returns-clause-numbers : goal.returns-clause-numbers
returns-clause-numbers c = numbers_are_numbers
