use Rattle.sadb.proofs.AssociationLemmas.{belongs_by}
use Rattle.sadb.proofs.pairs.Pairs.belongs_to.Goals as goal

pub returns-in-Some : goal.returns-in-Some
returns-in-Some c = belongs_by c.args.self.now.pairs c.args.ike c.args.serial c.in-Some.pair.now c.in-Some.ensures.value
