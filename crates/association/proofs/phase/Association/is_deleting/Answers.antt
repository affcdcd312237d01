use Rattle.std.proofs.Common.{rules}
use Rattle.association.proofs.DeletingLemmas.{deleting_told}
use Rattle.association.proofs.phase.Association.is_deleting.Goals as goal

pub returns : goal.returns
returns c = deleting_told c.args.self.now.outgoing _ (λ r b says. search rules) c.any.result c.any.ensures
