use Rattle.effects.proofs.HeldSpiLemmas.{spis_stay}
use Rattle.effects.proofs.laws.spis.spis_stay_reserved.Goals as goal

pub returns : goal.returns
returns c = spis_stay (record {
  closed = c.who_is_closed_holds_none.ensures;
  preparing = c.children_are_asked_for.ensures.preparing;
  issuing = c.children_are_asked_for.ensures.issuing;
  counting = c.children_are_asked_for.ensures.counting;
  replacing = c.children_are_asked_for.ensures.replacing;
  fewer = c.spis_stay_held.ensures.fewer;
}) c.what_is_answered_is_given_back.ensures
