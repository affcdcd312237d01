use Rattle.children.proofs.ChildLemmas.{accepted_is_child, made_is_child}
use Rattle.children.proofs.laws.pairs_are_children.Goals as goal

pub returns-clause-made : goal.returns-clause-made
returns-clause-made c = made_is_child

pub returns-clause-accepted : goal.returns-clause-accepted
returns-clause-accepted c = accepted_is_child
