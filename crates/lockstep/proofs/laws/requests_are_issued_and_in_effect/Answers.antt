use Rattle.lockstep.proofs.PromiseLemmas.{always_sound, sound_issued}
use Rattle.lockstep.proofs.laws.requests_are_issued_and_in_effect.Goals as goal

pub returns-clause-sound : goal.returns-clause-sound
returns-clause-sound c = sound_issued

pub returns-clause-always : goal.returns-clause-always
returns-clause-always c = λ old new steps asking answering begun is held. sound_issued new asking answering (always_sound old new steps begun is) held
