use Rattle.children.proofs.TermLemmas.{children_mirrored}
use Rattle.children.proofs.laws.children_mirror.Goals as goal

pub returns : goal.returns
returns c = children_mirrored
