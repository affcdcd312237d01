use Rattle.further.proofs.PairLemmas.{plain_accepted_is_further, plain_is_further}
use Rattle.further.proofs.laws.further_pairs_are_children.Goals as goal

pub returns-clause-made : goal.returns-clause-made
returns-clause-made c = plain_is_further c.octets_spell_one_message.ensures.chain c.pairs_are_children.ensures.made

pub returns-clause-accepted : goal.returns-clause-accepted
returns-clause-accepted c = plain_accepted_is_further c.octets_spell_one_message.ensures.chain c.pairs_are_children.ensures.accepted
