-- The answer to a request for an additional Child SA (RFC 7296 section 1.3.1).
use Rattle.std.specs.Prelude.{Option, Some, None, List, [], ◌∷◌}
use Rattle.base.specs.Octets.{Octets}
use Rattle.wire.specs.declared.payload.Payload.{Payload}
use Rattle.exchange.specs.Notices.{payload_of_notice, FitsNotice}
use Rattle.sadb.specs.declared.pair.Pair.{Pair}
use Rattle.exchange.specs.declared.child.ChildAnswer.{ChildAnswer}
use Rattle.exchange.specs.declared.child.ChildAnswer.TheVariants as answered
use Rattle.children.specs.Asking.{FitMessages}
use Rattle.further.specs.Payloads.{further_payloads}
use Rattle.further.specs.declared.deciding.Decision.{Decision}
use Rattle.further.specs.declared.deciding.Decision.TheVariants as decision

-- what the answer says, and the SA pair that the responder has
abbrev pub answer_to_further : Decision → ChildAnswer
answer_to_further (decision.Refused notice) = answered.Notice notice
answer_to_further (decision.Made made) = answered.Payloads made.payloads

abbrev pub further_pair : Decision → Option Pair
further_pair (decision.Refused notice) = None
further_pair (decision.Made made) = Some made.pair

-- the payloads: those of the Child SA with the responder's nonce, or one Notify payload
abbrev pub further_answer : ChildAnswer → Octets → List Payload
further_answer (answered.Payloads child) nonce = further_payloads child nonce
further_answer (answered.Notice notice) nonce = payload_of_notice notice ∷ []

-- it can be sent
abbrev pub FitsAnswer : ChildAnswer → Type 0
FitsAnswer (answered.Payloads child) = FitMessages child
FitsAnswer (answered.Notice notice) = FitsNotice notice
