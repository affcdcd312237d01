use Rattle.effects.specs.Taking.{meaning_of}
use Rattle.laws_coming_up.proofs.NewGatewayLemmas.{concludes_with_child, concludes_without_child}
use Rattle.laws_coming_up.proofs.laws.the_response_concludes.Goals as goal

pub returns-clause-child : goal.returns-clause-child
returns-clause-child g c one other o a b auth room octets terms r can known agreed sent is before brings =
    concludes_with_child (meaning_of g.C.Sealer g.C.Agreement g.C.Proof) a b one other o auth room octets r before (record {
      one_message = c.octets_spell_one_message.ensures.message;
      no_fault = c.what_is_spelled_has_no_fault.ensures;
      one_chain = c.octets_spell_one_message.ensures.chain;
      opens = c.sealed_messages_open.ensures;
      accepts_answers = c.answers_are_accepted.ensures;
      tells_windows = c.windows_are_read_again.ensures.answer;
      responses_acceptable = c.responses_are_acceptable.ensures;
      offers_acceptable = c.ends_agree.ensures.offers;
      accepts_once = c.answers_are_determined.ensures.accepted;
    }) can known is brings terms agreed sent

pub returns-clause-childless : goal.returns-clause-childless
returns-clause-childless g c one other o a b auth room octets notice r can known sent is before brings =
    concludes_without_child (meaning_of g.C.Sealer g.C.Agreement g.C.Proof) a b one other o auth room octets r before (record {
      one_message = c.octets_spell_one_message.ensures.message;
      no_fault = c.what_is_spelled_has_no_fault.ensures;
      one_chain = c.octets_spell_one_message.ensures.chain;
      opens = c.sealed_messages_open.ensures;
      accepts_answers = c.answers_are_accepted.ensures;
      tells_windows = c.windows_are_read_again.ensures.answer;
      responses_acceptable = c.responses_are_acceptable.ensures;
      offers_acceptable = c.ends_agree.ensures.offers;
      accepts_once = c.answers_are_determined.ensures.accepted;
    }) can known is brings notice sent
