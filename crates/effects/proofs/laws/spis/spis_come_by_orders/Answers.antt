use Rattle.effects.proofs.OrderSpiLemmas.{asked_spi, asking_spis, begun_first, begun_spi, opened_none}
use Rattle.effects.proofs.laws.spis.spis_come_by_orders.Goals as goal

pub returns-clause-begun : goal.returns-clause-begun
returns-clause-begun c = begun_spi (record {
  closed = c.who_is_closed_holds_none.ensures;
  preparing = c.children_are_asked_for.ensures.preparing;
  issuing = c.children_are_asked_for.ensures.issuing;
  counting = c.children_are_asked_for.ensures.counting;
  replacing = c.children_are_asked_for.ensures.replacing;
  fewer = c.spis_stay_held.ensures.fewer;
})

pub returns-clause-first : goal.returns-clause-first
returns-clause-first c = begun_first (record {
  closed = c.who_is_closed_holds_none.ensures;
  preparing = c.children_are_asked_for.ensures.preparing;
  issuing = c.children_are_asked_for.ensures.issuing;
  counting = c.children_are_asked_for.ensures.counting;
  replacing = c.children_are_asked_for.ensures.replacing;
  fewer = c.spis_stay_held.ensures.fewer;
})

pub returns-clause-admitted : goal.returns-clause-admitted
returns-clause-admitted c = opened_none

pub returns-clause-asked : goal.returns-clause-asked
returns-clause-asked c = asked_spi (record {
  closed = c.who_is_closed_holds_none.ensures;
  preparing = c.children_are_asked_for.ensures.preparing;
  issuing = c.children_are_asked_for.ensures.issuing;
  counting = c.children_are_asked_for.ensures.counting;
  replacing = c.children_are_asked_for.ensures.replacing;
  fewer = c.spis_stay_held.ensures.fewer;
})

pub returns-clause-asking : goal.returns-clause-asking
returns-clause-asking c = asking_spis (record {
  closed = c.who_is_closed_holds_none.ensures;
  preparing = c.children_are_asked_for.ensures.preparing;
  issuing = c.children_are_asked_for.ensures.issuing;
  counting = c.children_are_asked_for.ensures.counting;
  replacing = c.children_are_asked_for.ensures.replacing;
  fewer = c.spis_stay_held.ensures.fewer;
})
