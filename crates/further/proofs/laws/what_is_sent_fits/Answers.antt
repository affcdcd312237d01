use Rattle.children.specs.Asking.{child_request}
use Rattle.further.proofs.FittingLemmas.{answer_fits, child_fits}
use Rattle.further.proofs.laws.what_is_sent_fits.Goals as goal

pub returns-clause-request : goal.returns-clause-request
returns-clause-request c = λ asked nonce local remote octets. child_fits (child_request asked) nonce (c.payloads_fit.ensures.asked asked local remote) octets

pub returns-clause-answer : goal.returns-clause-answer
returns-clause-answer c = answer_fits c.notices_fit.ensures
