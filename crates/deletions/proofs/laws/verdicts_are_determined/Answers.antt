use Rattle.deletions.proofs.LimitLemmas.{one_verdict}
use Rattle.deletions.proofs.laws.verdicts_are_determined.Goals as goal

pub returns : goal.returns
returns c = λ pairs ike plain a b. one_verdict pairs ike c.octets_spell_one_message.ensures.chain plain a b
