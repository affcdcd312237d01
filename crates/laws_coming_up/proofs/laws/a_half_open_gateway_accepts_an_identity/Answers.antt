use Rattle.effects.specs.Taking.{meaning_of}
use Rattle.laws_coming_up.proofs.ResponderLemmas.{accepts_no_more, accepts_with_child, accepts_without_child}
use Rattle.laws_coming_up.proofs.laws.a_half_open_gateway_accepts_an_identity.Goals as goal

pub returns-clause-child : goal.returns-clause-child
returns-clause-child g c one d a auth q is brings waits can known sent meets has =
    accepts_with_child (meaning_of g.C.Sealer g.C.Agreement g.C.Proof) (meaning_of g.C.Sealer g.C.Agreement g.C.Proof a) one d auth q (record {
      one_message = c.octets_spell_one_message.ensures.message;
      no_fault = c.what_is_spelled_has_no_fault.ensures;
      one_chain = c.octets_spell_one_message.ensures.chain;
      opens = c.sealed_messages_open.ensures;
      receives_once = c.receptions_are_determined.ensures;
      receives_due = c.what_is_due_is_received.ensures;
      judges_once = c.judgements_are_determined.ensures;
      accepts_requests = c.requests_are_accepted.ensures;
      offers_acceptable = c.ends_agree.ensures.offers;
      chooses_once = c.choices_are_determined.ensures;
    }) is brings waits can known sent meets has

pub returns-clause-childless : goal.returns-clause-childless
returns-clause-childless g c one d a auth q is brings waits can known sent cannot =
    accepts_without_child (meaning_of g.C.Sealer g.C.Agreement g.C.Proof) (meaning_of g.C.Sealer g.C.Agreement g.C.Proof a) one d auth q (record {
      one_message = c.octets_spell_one_message.ensures.message;
      no_fault = c.what_is_spelled_has_no_fault.ensures;
      one_chain = c.octets_spell_one_message.ensures.chain;
      opens = c.sealed_messages_open.ensures;
      receives_once = c.receptions_are_determined.ensures;
      receives_due = c.what_is_due_is_received.ensures;
      judges_once = c.judgements_are_determined.ensures;
      accepts_requests = c.requests_are_accepted.ensures;
      offers_acceptable = c.ends_agree.ensures.offers;
      chooses_once = c.choices_are_determined.ensures;
    }) is brings waits can known sent cannot

pub returns-clause-crowded : goal.returns-clause-crowded
returns-clause-crowded g c one d a auth q is brings waits can known sent meets takes =
    accepts_no_more (meaning_of g.C.Sealer g.C.Agreement g.C.Proof) (meaning_of g.C.Sealer g.C.Agreement g.C.Proof a) one d auth q (record {
      one_message = c.octets_spell_one_message.ensures.message;
      no_fault = c.what_is_spelled_has_no_fault.ensures;
      one_chain = c.octets_spell_one_message.ensures.chain;
      opens = c.sealed_messages_open.ensures;
      receives_once = c.receptions_are_determined.ensures;
      receives_due = c.what_is_due_is_received.ensures;
      judges_once = c.judgements_are_determined.ensures;
      accepts_requests = c.requests_are_accepted.ensures;
      offers_acceptable = c.ends_agree.ensures.offers;
      chooses_once = c.choices_are_determined.ensures;
    }) is brings waits can known sent meets takes
