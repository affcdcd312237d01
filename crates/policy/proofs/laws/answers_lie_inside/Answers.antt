use Rattle.policy.proofs.LawLemmas.{answer_offers, lie_inside_policy}
use Rattle.policy.proofs.laws.answers_lie_inside.Goals as goal

pub returns-clause-offer : goal.returns-clause-offer
returns-clause-offer c = answer_offers

pub returns-clause-policy : goal.returns-clause-policy
returns-clause-policy c = lie_inside_policy
