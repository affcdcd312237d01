use Rattle.association.proofs.HeldLemmas.{counted_held, fewer_held, room_held, taken_held}
use Rattle.association.proofs.laws.spis_stay_held.Goals as goal

pub returns-clause-taking : goal.returns-clause-taking
returns-clause-taking c = taken_held

pub returns-clause-counting : goal.returns-clause-counting
returns-clause-counting c = counted_held

pub returns-clause-room : goal.returns-clause-room
returns-clause-room c = room_held

pub returns-clause-fewer : goal.returns-clause-fewer
returns-clause-fewer c = fewer_held
