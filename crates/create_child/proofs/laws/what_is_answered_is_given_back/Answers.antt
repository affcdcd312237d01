use Rattle.create_child.proofs.CountingLemmas.{given_back}
use Rattle.create_child.proofs.laws.what_is_answered_is_given_back.Goals as goal

pub returns : goal.returns
returns c = λ a table number request outgoing spi holds is asked held.
    given_back a table number request outgoing spi c.children_are_asked_for.ensures.counting holds is asked held
