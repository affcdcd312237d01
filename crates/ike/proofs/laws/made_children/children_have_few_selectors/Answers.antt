use Rattle.ike.proofs.FewLemmas.{few_selectors, FirstLaw}
use Rattle.ike.proofs.laws.made_children.children_have_few_selectors.Goals as goal

pub returns : goal.returns
returns c =
    let law : FirstLaw = record { made = c.children_are_made_of_their_messages.ensures.made } in
    few_selectors law
