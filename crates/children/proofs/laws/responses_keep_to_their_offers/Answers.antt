use Rattle.children.proofs.ChildLemmas.{answer_taken, extension_allowed, pair_inside, pair_narrowed, pair_protected}
use Rattle.children.proofs.laws.responses_keep_to_their_offers.Goals as goal

pub returns-clause-offer : goal.returns-clause-offer
returns-clause-offer c = pair_inside c.answers_lie_inside.ensures.offer

pub returns-clause-policy : goal.returns-clause-policy
returns-clause-policy c = pair_protected c.answers_lie_inside.ensures.policy

pub returns-clause-narrowed : goal.returns-clause-narrowed
returns-clause-narrowed c = pair_narrowed

pub returns-clause-extension : goal.returns-clause-extension
returns-clause-extension c = extension_allowed

pub returns-clause-proposal : goal.returns-clause-proposal
returns-clause-proposal c = answer_taken c.ends_agree.ensures.taken
