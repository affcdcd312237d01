use Rattle.ike.proofs.TraceLemmas.{step_again, step_short}
use Rattle.ike.proofs.laws.outputs.what_is_sent_is_short.Goals as goal

pub returns-clause-sent : goal.returns-clause-sent
returns-clause-sent c =
    step_short (record {
      requested = c.orders_are_short_and_determined.ensures.kept;
      sent = c.what_is_kept_is_short.ensures.sent;
      begins = c.what_is_kept_is_short.ensures.begun;
      admits = c.what_is_kept_is_short.ensures.admitted;
    })

pub returns-clause-again : goal.returns-clause-again
returns-clause-again c = step_again c.what_goes_out_again_is_outstanding.ensures
