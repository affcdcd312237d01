use Rattle.ike.proofs.MirrorLemmas.{first_mirror}
use Rattle.ike.proofs.laws.made_children.first_children_mirror.Goals as goal

pub returns : goal.returns
returns c = first_mirror (record { mirror = c.children_mirror.ensures })
