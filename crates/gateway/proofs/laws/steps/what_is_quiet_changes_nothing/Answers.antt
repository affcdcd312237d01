use Rattle.gateway.proofs.QuietLemmas.{quiet_step}
use Rattle.gateway.proofs.laws.steps.what_is_quiet_changes_nothing.Goals as goal

pub returns : goal.returns
returns g c = quiet_step (record { still = c.what_is_quiet_changes_nothing.ensures })
