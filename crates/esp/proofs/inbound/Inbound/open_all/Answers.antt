use Rattle.esp.proofs.Runs.{once_by, at_first_by}
use Rattle.esp.proofs.inbound.Inbound.open_all.Goals as goal

pub returns-clause-at_most_once : goal.returns-clause-at_most_once
returns-clause-at_most_once g c = once_by _ _ _ _ _ _ _ c.answer_each.result c.answer_each.ensures.all c.answer_each.ensures.stopped

pub returns-clause-exactly_at_first : goal.returns-clause-exactly_at_first
returns-clause-exactly_at_first g c = at_first_by _ _ _ _ _ _ _ c.answer_each.result c.answer_each.ensures.all c.answer_each.ensures.stopped
