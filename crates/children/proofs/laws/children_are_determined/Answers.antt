use Rattle.children.proofs.DeterminedChildren.{accepted_or_not, answered_by_content, same_after_adding}
use Rattle.children.proofs.laws.children_are_determined.Goals as goal

pub returns-clause-acceptable : goal.returns-clause-acceptable
returns-clause-acceptable c = accepted_or_not

pub returns-clause-answered : goal.returns-clause-answered
returns-clause-answered c = answered_by_content

pub returns-clause-added : goal.returns-clause-added
returns-clause-added c = same_after_adding (record {
  reserved = c.later_tables_are_determined.ensures.reserved;
  installed = c.later_tables_are_determined.ensures.installed;
})
