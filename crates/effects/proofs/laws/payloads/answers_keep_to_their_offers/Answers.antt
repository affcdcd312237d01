use Rattle.effects.proofs.OfferLemmas.{auth_answers, further_answers, initial_answers, message_answers}
use Rattle.effects.proofs.laws.payloads.answers_keep_to_their_offers.Goals as goal

pub returns-clause-initial : goal.returns-clause-initial
returns-clause-initial c = initial_answers (record { taken = c.ends_agree.ensures.taken })

pub returns-clause-auth : goal.returns-clause-auth
returns-clause-auth c = auth_answers (record { taken = c.ends_agree.ensures.taken })

pub returns-clause-further : goal.returns-clause-further
returns-clause-further c = further_answers (record { taken = c.ends_agree.ensures.taken })

pub returns-clause-message : goal.returns-clause-message
returns-clause-message c = message_answers (record { taken = c.ends_agree.ensures.taken }) c.receptions_say_why.ensures.effective
