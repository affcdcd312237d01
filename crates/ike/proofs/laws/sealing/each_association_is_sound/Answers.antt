use Rattle.ike.proofs.FirstRequestLemmas.{sound_at, whole_at}
use Rattle.ike.proofs.laws.sealing.each_association_is_sound.Goals as goal

pub returns-clause-sound : goal.returns-clause-sound
returns-clause-sound c = sound_at

pub returns-clause-whole : goal.returns-clause-whole
returns-clause-whole c = whole_at
