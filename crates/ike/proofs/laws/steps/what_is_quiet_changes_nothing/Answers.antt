use Rattle.ike.proofs.QuietLemmas.{quiet_step}
use Rattle.ike.proofs.laws.steps.what_is_quiet_changes_nothing.Goals as goal

pub returns : goal.returns
returns c =
    quiet_step (record {
      refused = c.what_is_passed_over_changes_nothing.ensures.refused;
      repeated = c.what_is_passed_over_changes_nothing.ensures.repeated;
    })
