use Rattle.moments.proofs.NextLemmas.{quiet_before, something_at}
use Rattle.moments.proofs.next.next_of.Goals as goal

pub returns-clause-early : goal.returns-clause-early
returns-clause-early c = quiet_before c.end_of.result c.next_request.result c.earlier.result c.args.association.now c.earlier.ensures c.end_of.ensures.early c.next_request.ensures.early

pub returns-clause-due : goal.returns-clause-due
returns-clause-due c = something_at c.end_of.result c.next_request.result c.earlier.result c.args.association.now c.earlier.ensures c.end_of.ensures.due c.next_request.ensures.due
