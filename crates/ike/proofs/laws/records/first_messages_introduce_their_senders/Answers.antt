use Rattle.ike.proofs.IntroductionLemmas.{answer_introduces, one_sender, request_introduces}
use Rattle.ike.proofs.laws.records.first_messages_introduce_their_senders.Goals as goal

pub returns-clause-request : goal.returns-clause-request
returns-clause-request c = request_introduces c.plain_spellings_are_spellings.ensures.message

pub returns-clause-answer : goal.returns-clause-answer
returns-clause-answer c = answer_introduces c.plain_spellings_are_spellings.ensures.message

pub returns-clause-one : goal.returns-clause-one
returns-clause-one c = one_sender c.octets_spell_one_message.ensures.message
