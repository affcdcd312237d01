use Rattle.wire.proofs.DeterminedSpellings.{spelled_or_faulty}
use Rattle.wire.proofs.laws.what_is_spelled_has_no_fault.Goals as goal

pub returns : goal.returns
returns c = spelled_or_faulty
