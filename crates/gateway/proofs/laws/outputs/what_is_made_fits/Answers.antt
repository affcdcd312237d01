use Rattle.gateway.proofs.FittingLemmas.{step_made, MadeLaws}
use Rattle.gateway.proofs.laws.outputs.what_is_made_fits.Goals as goal

pub returns : goal.returns
returns g c =
    let laws : MadeLaws = record { few = c.children_have_few_selectors.ensures } in
    λ meaning given said trace old new table sound is. step_made laws meaning given said trace old new table sound is
