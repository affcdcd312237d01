use Rattle.further.proofs.RefusalLemmas.{told_no_child, told_to_close}
use Rattle.further.proofs.laws.further_refusals_are_told.Goals as goal

pub returns-clause-closing : goal.returns-clause-closing
returns-clause-closing c = λ notice nonce blocks ike keys asked own_nonce plain concluded ends spelled is.
    told_to_close blocks ike keys asked own_nonce c.octets_spell_one_message.ensures.chain notice plain concluded ends spelled is

pub returns-clause-others : goal.returns-clause-others
returns-clause-others c = λ notice nonce blocks ike keys asked own_nonce plain concluded ends spelled is.
    told_no_child blocks ike keys asked own_nonce c.octets_spell_one_message.ensures.chain notice plain concluded ends spelled is
