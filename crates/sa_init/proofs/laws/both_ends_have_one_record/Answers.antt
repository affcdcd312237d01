use Rattle.sa_init.proofs.AgreementLemmas.{answer_is_read, one_record}
use Rattle.sa_init.proofs.laws.both_ends_have_one_record.Goals as goal

pub returns-clause-one : goal.returns-clause-one
returns-clause-one g c =
    one_record c.octets_spell_one_message.ensures.message c.plain_spellings_are_spellings.ensures.message g.C.Agreement.public_value g.C.Agreement.shared_secret g.met.C.Agreement.symmetric

pub returns-clause-read : goal.returns-clause-read
returns-clause-read g c =
    answer_is_read c.octets_spell_one_message.ensures.message c.plain_spellings_are_spellings.ensures.message c.ends_agree.ensures.answers g.C.Agreement.public_value g.C.Agreement.shared_secret g.met.C.Agreement.symmetric
