use Rattle.further.proofs.OfferLemmas.{accepted_by_who_asked}
use Rattle.further.proofs.laws.further_answers_are_accepted.Goals as goal

pub returns : goal.returns
returns c = accepted_by_who_asked c.octets_spell_one_message.ensures.chain c.responses_are_acceptable.ensures
