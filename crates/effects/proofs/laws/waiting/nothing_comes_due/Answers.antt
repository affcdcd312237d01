use Rattle.effects.proofs.DueLemmas.{admitted_timely, begun_timely, requested_timely, taken_timely}
use Rattle.effects.proofs.laws.waiting.nothing_comes_due.Goals as goal

pub returns : goal.returns
returns c = record { taken = taken_timely c.nothing_is_due_afterwards.ensures.closed; begun = begun_timely; admitted = admitted_timely; requested = requested_timely }
