use Rattle.moments.proofs.NextLemmas.{lies_ahead}
use Rattle.moments.proofs.laws.what_is_due_next_lies_ahead.Goals as goal

pub returns : goal.returns
returns c = lies_ahead
