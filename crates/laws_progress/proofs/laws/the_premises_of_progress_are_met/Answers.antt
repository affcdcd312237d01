use Rattle.laws_progress.proofs.WorkedStreamLemmas.{worked_progress}
use Rattle.laws_progress.proofs.laws.the_premises_of_progress_are_met.Goals as goal

pub returns : goal.returns
returns g c = λ a b.
    worked_progress a b (c.the_premises_are_met_from_new_gateways_on.ensures a b) c.every_run_keeps_its_promises.ensures c.each_end_has_its_events.ensures.history
