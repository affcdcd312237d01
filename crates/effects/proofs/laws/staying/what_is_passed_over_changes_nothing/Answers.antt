use Rattle.effects.proofs.SpiLemmas.{passed_over, repeated}
use Rattle.effects.proofs.laws.staying.what_is_passed_over_changes_nothing.Goals as goal

pub returns-clause-refused : goal.returns-clause-refused
returns-clause-refused c = passed_over

pub returns-clause-repeated : goal.returns-clause-repeated
returns-clause-repeated c = repeated
