use Rattle.exchange.specs.declared.notices.Notice.TheVariants.{TsUnacceptable}
use Rattle.laws_coming_up.proofs.NewGatewayLemmas.{initiator_can_be, mirrored, responder_can_be}
use Rattle.laws_coming_up.proofs.laws.it_comes_up.Goals as goal

pub returns-clause-child : goal.returns-clause-child
returns-clause-child g c one other o a b auth room q r is meets =
    let first = c.an_identity_is_accepted.ensures.child one other o a b auth q (initiator_can_be one o auth room a r.before is.waits is.ends.sound) is.initiator_known is.sent
    is.answers is.opened is.asked meets in
    record {
      responder = first;
      initiator = c.the_response_concludes.ensures.child one other o a b auth room first.accepts.octets first.terms r
          (responder_can_be other o b q.before is.opened is.answers.sound) is.responder_known first.agreed first.accepts.sent is.ends is.waits
          (is.answered first.accepts.octets first.accepts.said);
      mirrored = mirrored one other o first.terms;
    }

pub returns-clause-childless : goal.returns-clause-childless
returns-clause-childless g c one other o a b auth room q r is cannot =
    let first = c.an_identity_is_accepted.ensures.childless one other o a b auth q (initiator_can_be one o auth room a r.before is.waits is.ends.sound) is.initiator_known
    is.sent is.answers is.opened is.asked cannot in
    record {
      responder = first;
      initiator = c.the_response_concludes.ensures.childless one other o a b auth room first.accepts.octets TsUnacceptable r
          (responder_can_be other o b q.before is.opened is.answers.sound) is.responder_known first.accepts.sent is.ends is.waits
          (is.answered first.accepts.octets first.accepts.said);
    }
