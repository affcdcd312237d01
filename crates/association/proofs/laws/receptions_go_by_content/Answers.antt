use Rattle.association.proofs.DeterminedAssociations.{received_by_content}
use Rattle.association.proofs.laws.receptions_go_by_content.Goals as goal

pub returns : goal.returns
returns c = λ plain_of a b octets m reception same is. received_by_content c.later_incoming_are_determined.ensures.judged m.header.flags.response plain_of a b octets m reception same is
