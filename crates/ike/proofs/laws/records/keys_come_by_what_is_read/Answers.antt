use Rattle.ike.proofs.KeysComeLemmas.{comes_as_initiator, comes_as_responder}
use Rattle.ike.proofs.laws.records.keys_come_by_what_is_read.Goals as goal

pub returns-clause-initiator : goal.returns-clause-initiator
returns-clause-initiator c = λ meaning entries from octets fresh old table stepped new new_table place was is sent keys own other steps stood waited stands keyed secret own_is says.
    comes_as_initiator c.octets_spell_one_message.ensures.message meaning entries from octets fresh old table stepped new new_table place keys own other steps was is sent stood waited stands keyed secret own_is says

pub returns-clause-responder : goal.returns-clause-responder
returns-clause-responder c = λ meaning entries from octets fresh old table stepped new new_table place is keys own other steps none_stood stands keyed secret own_is says.
    comes_as_responder c.octets_spell_one_message.ensures.message meaning entries from octets fresh old table stepped new new_table place keys own other steps is none_stood stands keyed secret own_is says
