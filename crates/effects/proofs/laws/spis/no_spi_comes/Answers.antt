use Rattle.effects.proofs.HeldSpiLemmas.{none_comes}
use Rattle.effects.proofs.laws.spis.no_spi_comes.Goals as goal

pub returns : goal.returns
returns c = none_comes (record {
  closed = c.who_is_closed_holds_none.ensures;
  preparing = c.children_are_asked_for.ensures.preparing;
  issuing = c.children_are_asked_for.ensures.issuing;
  counting = c.children_are_asked_for.ensures.counting;
  replacing = c.children_are_asked_for.ensures.replacing;
  fewer = c.spis_stay_held.ensures.fewer;
})
