use Rattle.deletions.proofs.RoomLemmas.{ready_still}
use Rattle.deletions.proofs.laws.room_stays.Goals as goal

pub returns : goal.returns
returns c = ready_still
