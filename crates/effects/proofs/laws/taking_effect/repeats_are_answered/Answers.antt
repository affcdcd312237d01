use Rattle.effects.proofs.RequestLemmas.{forgotten_is_refused, repeat_is_answered, repeated_why}
use Rattle.effects.proofs.laws.taking_effect.repeats_are_answered.Goals as goal

pub returns-clause-repeated : goal.returns-clause-repeated
returns-clause-repeated c = repeat_is_answered

pub returns-clause-forgotten : goal.returns-clause-forgotten
returns-clause-forgotten c = forgotten_is_refused

pub returns-clause-only : goal.returns-clause-only
returns-clause-only c = repeated_why c.repeats_say_why.ensures
