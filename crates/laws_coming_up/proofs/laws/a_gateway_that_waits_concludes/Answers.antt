use Rattle.effects.specs.Taking.{meaning_of}
use Rattle.laws_coming_up.proofs.InitiatorLemmas.{concludes_with_child, concludes_without_child}
use Rattle.laws_coming_up.proofs.laws.a_gateway_that_waits_concludes.Goals as goal

pub returns-clause-child : goal.returns-clause-child
returns-clause-child g c other d b octets entries spi terms r is brings waits valid known agreed sent =
    concludes_with_child (meaning_of g.C.Sealer g.C.Agreement g.C.Proof) (meaning_of g.C.Sealer g.C.Agreement g.C.Proof b) other d octets r (record {
      one_message = c.octets_spell_one_message.ensures.message;
      no_fault = c.what_is_spelled_has_no_fault.ensures;
      one_chain = c.octets_spell_one_message.ensures.chain;
      opens = c.sealed_messages_open.ensures;
      accepts_answers = c.answers_are_accepted.ensures;
      tells_windows = c.windows_are_read_again.ensures.answer;
      responses_acceptable = c.responses_are_acceptable.ensures;
      offers_acceptable = c.ends_agree.ensures.offers;
      accepts_once = c.answers_are_determined.ensures.accepted;
    }) is brings waits valid known
    other.extended entries spi terms agreed sent

pub returns-clause-childless : goal.returns-clause-childless
returns-clause-childless g c other d b octets notice r is brings waits valid known sent =
    concludes_without_child (meaning_of g.C.Sealer g.C.Agreement g.C.Proof) (meaning_of g.C.Sealer g.C.Agreement g.C.Proof b) other d octets r (record {
      one_message = c.octets_spell_one_message.ensures.message;
      no_fault = c.what_is_spelled_has_no_fault.ensures;
      one_chain = c.octets_spell_one_message.ensures.chain;
      opens = c.sealed_messages_open.ensures;
      accepts_answers = c.answers_are_accepted.ensures;
      tells_windows = c.windows_are_read_again.ensures.answer;
      responses_acceptable = c.responses_are_acceptable.ensures;
      offers_acceptable = c.ends_agree.ensures.offers;
      accepts_once = c.answers_are_determined.ensures.accepted;
    }) is brings waits valid known
    notice sent
