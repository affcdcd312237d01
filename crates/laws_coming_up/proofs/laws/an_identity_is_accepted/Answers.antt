use Rattle.effects.specs.Taking.{meaning_of}
use Rattle.laws_coming_up.proofs.NewGatewayLemmas.{accepts_with_child, accepts_without_child}
use Rattle.laws_coming_up.proofs.laws.an_identity_is_accepted.Goals as goal

pub returns-clause-child : goal.returns-clause-child
returns-clause-child g c one other o a b auth q can known sent is before brings meets =
    accepts_with_child (meaning_of g.C.Sealer g.C.Agreement g.C.Proof) a b one other o auth q before (record {
      one_message = c.octets_spell_one_message.ensures.message;
      no_fault = c.what_is_spelled_has_no_fault.ensures;
      one_chain = c.octets_spell_one_message.ensures.chain;
      opens = c.sealed_messages_open.ensures;
      receives_once = c.receptions_are_determined.ensures;
      receives_due = c.what_is_due_is_received.ensures;
      judges_once = c.judgements_are_determined.ensures;
      accepts_requests = c.requests_are_accepted.ensures;
      offers_acceptable = c.ends_agree.ensures.offers;
      chooses_once = c.choices_are_determined.ensures;
    }) can known sent is brings meets

pub returns-clause-childless : goal.returns-clause-childless
returns-clause-childless g c one other o a b auth q can known sent is before brings cannot =
    accepts_without_child (meaning_of g.C.Sealer g.C.Agreement g.C.Proof) a b one other o auth q before (record {
      one_message = c.octets_spell_one_message.ensures.message;
      no_fault = c.what_is_spelled_has_no_fault.ensures;
      one_chain = c.octets_spell_one_message.ensures.chain;
      opens = c.sealed_messages_open.ensures;
      receives_once = c.receptions_are_determined.ensures;
      receives_due = c.what_is_due_is_received.ensures;
      judges_once = c.judgements_are_determined.ensures;
      accepts_requests = c.requests_are_accepted.ensures;
      offers_acceptable = c.ends_agree.ensures.offers;
      chooses_once = c.choices_are_determined.ensures;
    }) can known sent is brings cannot
