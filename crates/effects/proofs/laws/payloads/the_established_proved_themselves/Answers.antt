use Rattle.effects.proofs.ProvingLemmas.{message_proves, request_proves, response_proves}
use Rattle.effects.proofs.laws.payloads.the_established_proved_themselves.Goals as goal

pub returns-clause-request : goal.returns-clause-request
returns-clause-request c =
    request_proves (record { request = c.who_is_accepted_proved_itself.ensures.request; answer = c.who_is_accepted_proved_itself.ensures.answer })

pub returns-clause-response : goal.returns-clause-response
returns-clause-response c =
    response_proves (record { request = c.who_is_accepted_proved_itself.ensures.request; answer = c.who_is_accepted_proved_itself.ensures.answer })

pub returns-clause-message : goal.returns-clause-message
returns-clause-message c =
    message_proves (record {
      acceptance = record { request = c.who_is_accepted_proved_itself.ensures.request; answer = c.who_is_accepted_proved_itself.ensures.answer };
      effective = c.receptions_say_why.ensures.effective;
      answering = c.receptions_say_why.ensures.answering;
    })
