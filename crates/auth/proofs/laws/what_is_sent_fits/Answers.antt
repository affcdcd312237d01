use Rattle.exchange.specs.Children.{child_payloads, answering_payloads}
use Rattle.exchange.specs.declared.headers.Role.TheVariants.{Initiator, Responder}
use Rattle.auth.proofs.LawLemmas.{message_fits}
use Rattle.auth.proofs.laws.what_is_sent_fits.Goals as goal

pub returns-clause-request : goal.returns-clause-request
returns-clause-request c = λ own_method proof_of own what child window is auth fit. message_fits Initiator own_method proof_of own what (child_payloads child) window is auth fit

pub returns-clause-answer : goal.returns-clause-answer
returns-clause-answer c = λ own_method proof_of own what answer window is auth fit. message_fits Responder own_method proof_of own what (answering_payloads answer) window is auth fit
