use Rattle.association.proofs.ReceivingLemmas.{one_reception}
use Rattle.association.proofs.laws.receptions_are_determined.Goals as goal

pub returns : goal.returns
returns c = λ plain_of a octets m one other first second.
    one_reception c.judgements_are_determined.ensures.judgement m.header.flags.response plain_of a octets m one other first second
