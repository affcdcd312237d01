use Rattle.std.proofs.Common.{rules}
use Rattle.moments.specs.Due.{is_unanswered}
use Rattle.requests.proofs.OrderLemmas.{any_told}
use Rattle.moments.proofs.due.has_failed.Goals as goal

pub returns : goal.returns
returns c = any_told (is_unanswered c.args.now) c.args.association.now.outgoing.outstanding _ (λ r b says. search rules) c.any.result c.any.ensures
