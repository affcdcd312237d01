use Rattle.association.proofs.DeterminedAssociations.{same_after_closing}
use Rattle.association.proofs.laws.endings_are_determined.Goals as goal

pub returns : goal.returns
returns c = same_after_closing (record {
  emptied = c.later_tables_are_determined.ensures.emptied;
  given_up = c.later_outgoing_are_determined.ensures.given_up;
})
