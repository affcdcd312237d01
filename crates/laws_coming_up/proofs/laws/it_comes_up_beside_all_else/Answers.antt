use Rattle.exchange.specs.declared.notices.Notice.TheVariants.{NoAdditionalSas, TsUnacceptable}
use Rattle.effects.specs.Taking.{meaning_of}
use Rattle.laws_opening.specs.Beside.{next_spi}
use Rattle.laws_coming_up.proofs.BesideLemmas.{can_ask}
use Rattle.laws_coming_up.proofs.InitiatorLemmas.{mirrored}
use Rattle.laws_coming_up.proofs.laws.it_comes_up_beside_all_else.Goals as goal

pub returns-clause-child : goal.returns-clause-child
returns-clause-child g c d auth q r are meets has =
    let one = r.before.machine.config in
    let other = q.before.machine.config in
    let can = can_ask (meaning_of g.C.Sealer g.C.Agreement g.C.Proof) d auth q r are in
    let first = c.a_half_open_gateway_accepts_an_identity.ensures.child one d r.before.caller auth q are.answers are.asked are.half_open can are.initiator_known are.sent meets has in
    record {
      responder = first;
      initiator = c.a_gateway_that_waits_concludes.ensures.child other d q.before.caller first.accepts.octets q.before.entries (next_spi q.before.table) first.terms r are.ends
          (are.answered first.accepts.octets first.accepts.said) are.waits are.answers.sound.machine.config are.responder_known first.agreed first.accepts.sent;
      mirrored = mirrored one other d are.waits.association.serial are.half_open.association.serial first.terms;
    }

pub returns-clause-childless : goal.returns-clause-childless
returns-clause-childless g c d auth q r are cannot =
    let can = can_ask (meaning_of g.C.Sealer g.C.Agreement g.C.Proof) d auth q r are in
    let first = c.a_half_open_gateway_accepts_an_identity.ensures.childless r.before.machine.config d r.before.caller auth q are.answers are.asked are.half_open can
    are.initiator_known are.sent cannot in
    record {
      responder = first;
      initiator = c.a_gateway_that_waits_concludes.ensures.childless q.before.machine.config d q.before.caller first.accepts.octets TsUnacceptable r are.ends
          (are.answered first.accepts.octets first.accepts.said) are.waits are.answers.sound.machine.config are.responder_known first.accepts.sent;
    }

pub returns-clause-crowded : goal.returns-clause-crowded
returns-clause-crowded g c d auth q r are meets takes =
    let can = can_ask (meaning_of g.C.Sealer g.C.Agreement g.C.Proof) d auth q r are in
    let first = c.a_half_open_gateway_accepts_an_identity.ensures.crowded r.before.machine.config d r.before.caller auth q are.answers are.asked are.half_open can
    are.initiator_known are.sent meets takes in
    record {
      responder = first;
      initiator = c.a_gateway_that_waits_concludes.ensures.childless q.before.machine.config d q.before.caller first.accepts.octets NoAdditionalSas r are.ends
          (are.answered first.accepts.octets first.accepts.said) are.waits are.answers.sound.machine.config are.responder_known first.accepts.sent;
    }
