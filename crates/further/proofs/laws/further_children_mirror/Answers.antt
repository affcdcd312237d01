use Rattle.further.proofs.PairLemmas.{ends_mirrored, further_mirrored, PairLaws}
use Rattle.further.proofs.laws.further_children_mirror.Goals as goal

pub returns-clause-children : goal.returns-clause-children
returns-clause-children c = further_mirrored c.children_mirror.ensures

pub returns-clause-ends : goal.returns-clause-ends
returns-clause-ends c =
    let laws : PairLaws = record {
      chain = c.octets_spell_one_message.ensures.chain;
      mirror = c.children_mirror.ensures;
      made = c.pairs_are_children.ensures.made;
      accepted = c.pairs_are_children.ensures.accepted;
    } in
    ends_mirrored laws
