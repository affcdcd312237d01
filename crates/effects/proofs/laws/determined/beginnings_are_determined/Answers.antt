use Rattle.effects.proofs.DeterminedReadings.{one_admission, one_beginning}
use Rattle.effects.proofs.laws.determined.beginnings_are_determined.Goals as goal

pub returns-clause-begun : goal.returns-clause-begun
returns-clause-begun c =
    let own = c.later_outgoing_are_determined.ensures in
    one_beginning c.plain_spellings_are_determined.ensures.message
    (record { prepared = own.prepared; issued = own.issued; counted = own.counted; replaced = own.replaced })

pub returns-clause-admitted : goal.returns-clause-admitted
returns-clause-admitted c = one_admission (record { response = c.answers_are_determined.ensures.response; answer = c.answers_are_determined.ensures.answer })
