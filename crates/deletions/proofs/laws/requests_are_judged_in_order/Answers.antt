use Rattle.deletions.proofs.OrderLemmas.{bad_syntax, closes, deletes, unsupported}
use Rattle.deletions.proofs.laws.requests_are_judged_in_order.Goals as goal

pub returns-clause-unsupported : goal.returns-clause-unsupported
returns-clause-unsupported c = unsupported

pub returns-clause-bad_syntax : goal.returns-clause-bad_syntax
returns-clause-bad_syntax c = bad_syntax

pub returns-clause-closes : goal.returns-clause-closes
returns-clause-closes c = closes

pub returns-clause-deletes : goal.returns-clause-deletes
returns-clause-deletes c = deletes
