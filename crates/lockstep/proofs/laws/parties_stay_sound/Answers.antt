use Rattle.lockstep.proofs.PartyLemmas.{new_parties_sound, sound_at_one, sound_at_other}
use Rattle.lockstep.proofs.laws.parties_stay_sound.Goals as goal

pub returns-clause-begun : goal.returns-clause-begun
returns-clause-begun c = new_parties_sound

pub returns-clause-at_one : goal.returns-clause-at_one
returns-clause-at_one c = sound_at_one

pub returns-clause-at_other : goal.returns-clause-at_other
returns-clause-at_other c = sound_at_other
