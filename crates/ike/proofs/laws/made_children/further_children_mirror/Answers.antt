use Rattle.ike.proofs.MirrorLemmas.{further_mirror}
use Rattle.ike.proofs.laws.made_children.further_children_mirror.Goals as goal

pub returns : goal.returns
returns c = further_mirror (record { mirror = c.further_children_mirror.ensures.children })
