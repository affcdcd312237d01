use Rattle.sadb.proofs.AssociationLemmas.{carries_by}
use Rattle.sadb.proofs.pairs.Pairs.carries_by.Goals as goal

pub returns-in-Some : goal.returns-in-Some
returns-in-Some c = carries_by c.args.self.now.pairs c.args.flow.now c.args.serial c.in-Some.pair.now c.carries.result c.in-Some.ensures.value c.carries.ensures
