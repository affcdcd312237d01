use Rattle.moments.proofs.TimelyLemmas.{closed_on, nothing_left}
use Rattle.moments.proofs.laws.nothing_is_due_afterwards.Goals as goal

pub returns : goal.returns
returns c = record { held = nothing_left; closed = closed_on }
