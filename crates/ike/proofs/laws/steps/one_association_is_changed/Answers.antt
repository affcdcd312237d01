use Rattle.ike.proofs.ChangeLemmas.{step_changes}
use Rattle.ike.proofs.laws.steps.one_association_is_changed.Goals as goal

pub returns : goal.returns
returns c = step_changes (record { itself = c.associations_stay_themselves.ensures; leaves = c.pairs_stay_as_they_were.ensures })
